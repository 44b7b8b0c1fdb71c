use Rattle.std.proofs.Common.{rules}
use Rattle.stored.proofs.Cases.{one_more}
use Rattle.stored.proofs.each_case.Goals as goal

pub loop-preserved : goal.loop-preserved
loop-preserved g c = one_more g.F.Fn c.args.run c.loop.counter _ _ _ c.run.result _ c.loop.invariant c.run.ensures (search rules)

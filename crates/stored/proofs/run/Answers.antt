use Rattle.stored.proofs.Cases.{one_call}
use Rattle.stored.proofs.run.Goals as goal

pub returns : goal.returns
returns g c = (_, c.all.result, _, one_call g.F.Fn c.args.all _ _ c.all.result _ c.all.ensures, c.with_zeros-input.ensures.then_zeros)

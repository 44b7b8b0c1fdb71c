use Rattle.nodebits.specs.Loops.{clearing_back}
use Rattle.nodebits.proofs.clear_flagged.Goals as goal

pub returns : goal.returns
returns c = clearing_back c.args.effective.now c.args.flags.now c.loop-j.weight-items c.loop-j.j c.min-n.result c.loop-j-test.false c.min-n.ensures c.loop-j.invariant

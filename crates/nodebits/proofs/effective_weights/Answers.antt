use Rattle.nodebits.specs.Loops.{effective_is}
use Rattle.nodebits.proofs.effective_weights.Goals as goal

pub returns : goal.returns
returns c = effective_is c.args.effective.now c.fill.new.list c.copy.new.to c.args.weights.now c.args.flags.now c.clear_flagged.new.effective c.args.m c.requires.0 c.requires.1 c.fill.ensures c.copy.ensures c.clear_flagged.ensures

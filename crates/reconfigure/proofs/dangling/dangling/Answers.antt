use Rattle.spec.specs.Memory.{filled}
use Rattle.reconfigure.specs.Tally.{counts_answer}
use mathlib.Core.Path.{refl}
use Rattle.reconfigure.proofs.dangling.dangling.Goals as goal

pub returns : goal.returns
unfolding filled
returns c = let a = c.args in counts_answer a.m a.n a.o a.counts.now a.legs.now a.outputs.now (filled 256 0) c.tally_leaves.new.tally c.strike.new.tally c.any_one.result c.requires.0 c.requires.2 c.requires.3 refl c.tally_leaves.ensures c.strike.ensures c.any_one.ensures

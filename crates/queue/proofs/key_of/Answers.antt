use mathlib.Core.Path.{refl}
use lib.Ieee.{of_bits, round}
use Rattle.queue.proofs.key_of.Goals as goal

pub returns : goal.returns
unfolding of_bits round
returns c = refl

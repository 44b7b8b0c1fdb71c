use Rattle.std.proofs.Common.{refl}
use lib.Ieee.{of_bits}
use Rattle.spec.specs.Draws.{unit_of}
use Rattle.draws.proofs.unit_draw.Goals as goal

pub returns : goal.returns
unfolding unit_of of_bits
returns c = refl

use Rattle.spec.specs.Undercut.{undercuts}
use lib.Ieee.{of_bits, round}
use mathlib.Core.Path.{refl}
use Rattle.rebuild.proofs.undercuts.Goals as goal

pub returns : goal.returns
unfolding undercuts of_bits round
returns c = refl

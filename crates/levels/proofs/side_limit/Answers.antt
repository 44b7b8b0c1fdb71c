use Rattle.spec.specs.Floats.{lesser}
use lib.Ieee.{of_bits, of_int, round}
use mathlib.Core.Path.{◌∙◌}
use Rattle.levels.proofs.side_limit.Goals as goal

pub returns : goal.returns
unfolding of_bits of_int round
returns c = c.lesser.ensures ∙ (λ i. lesser (c.greater-wanted.ensures i) (c.greater-most.ensures i))

use Rattle.network.specs.Codes.{large_leaves, large_indices, large_outputs, large_legs}
use native.Mathlib.Omega.{arith}
use mathlib.Core.Path.{◌∙◌}
use Rattle.network.proofs.checks.is_too_large.Goals as goal

pub returns-then-n-gt-MAX_LEAVES : goal.returns-then-n-gt-MAX_LEAVES
returns-then-n-gt-MAX_LEAVES c = large_leaves _ _ _ _ c.if-n-gt-MAX_LEAVES.true

pub returns-then-m-gt-MAX_INDICES : goal.returns-then-m-gt-MAX_INDICES
returns-then-m-gt-MAX_INDICES c = large_indices _ _ _ _ c.if-m-gt-MAX_INDICES.true

pub returns-then-o-gt-MAX_OUTPUTS : goal.returns-then-o-gt-MAX_OUTPUTS
returns-then-o-gt-MAX_OUTPUTS c = large_outputs _ _ _ _ c.if-o-gt-MAX_OUTPUTS.true

pub returns : goal.returns
returns c = c.above.ensures ∙ large_legs _ _ _ _ c.if-n-gt-MAX_LEAVES.false c.if-m-gt-MAX_INDICES.false c.if-o-gt-MAX_OUTPUTS.false
    (c.requires (omega (arith, c.if-n-gt-MAX_LEAVES.false)))

use Rattle.slots.specs.Writes.{leaf_has}
use Rattle.nodesets.specs.Passes.{with_sets}
use mathlib.Core.Path.{◌≡◌}
use Rattle.nodesets.proofs.leaf_sets.Given as goal

abbrev pub invariant-loop-i : goal.invariant-loop-i
invariant-loop-i l = l.sets ≡ with_sets l.initial.sets l.w (leaf_has l.counts l.legs) l.i

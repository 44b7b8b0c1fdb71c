use mathlib.Core.Bool.{◌||◌}
use Rattle.slots.specs.Slots.{written}
use Rattle.slots.specs.Writes.{mixed}
use Prim.Native.Nat.{◌*◌, ◌≤◌}
use mathlib.Core.Path.{◌≡◌}
use lib.ListN.{length}
use Rattle.nodesets.proofs.join.Given as goal

abbrev pub invariant-loop-k : goal.invariant-loop-k
invariant-loop-k l = (l.k ≤ l.w) × (length l.sets ≡ length l.initial.sets) × (l.sets ≡ written l.initial.sets (l.c * l.w) (mixed (λ x y. x || y) l.initial.sets l.w l.a l.b) l.k)

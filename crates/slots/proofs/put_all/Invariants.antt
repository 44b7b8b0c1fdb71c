use Rattle.slots.specs.Writes.{and_all}
use Rattle.slots.specs.Slots.{with_set}
use Prim.Native.Nat.{◌-◌, ◌≤◌}
use mathlib.Core.Path.{◌≡◌}
use Rattle.slots.proofs.put_all.Given as goal

abbrev pub invariant-loop-k : goal.invariant-loop-k
invariant-loop-k l = (l.k ≤ l.n) × (l.words ≡ with_set l.initial.words l.w l.s (and_all l.initial.words l.w l.s l.list l.base l.k))

abbrev pub decreases-loop-k : goal.decreases-loop-k
decreases-loop-k l = l.n - l.k

use Rattle.slots.specs.Rising.{Walked}
use Prim.Native.Nat.{◌+◌, ◌-◌, ◌*◌, ◌≤◌}
use Rattle.slots.proofs.members.Given as goal

abbrev pub invariant-loop-k : goal.invariant-loop-k
invariant-loop-k l = (l.k ≤ l.w) × Walked l.words l.w l.s l.initial.out l.at l.out l.n l.k × (l.n ≤ l.at + l.k * 64)

abbrev pub decreases-loop-k : goal.decreases-loop-k
decreases-loop-k l = l.w - l.k

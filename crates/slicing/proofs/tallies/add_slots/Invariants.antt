use Rattle.slicing.specs.Words.{AddedTo}
use Prim.Native.Nat.{◌≤◌}
use Rattle.slicing.proofs.tallies.add_slots.Given as goal

abbrev pub invariant-loop-k : goal.invariant-loop-k
invariant-loop-k l = (l.k ≤ l.w) × AddedTo l.sets l.w l.a l.b l.amount l.initial.sums l.k l.sums

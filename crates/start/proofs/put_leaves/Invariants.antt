use Rattle.start.specs.Leaves.{with_leaves}
use Prim.Native.Nat.{◌≤◌}
use mathlib.Core.Path.{◌≡◌}
use lib.ListN.{length}
use Rattle.start.proofs.put_leaves.Given as goal

abbrev pub invariant-loop-i : goal.invariant-loop-i
invariant-loop-i l = (l.i ≤ length l.leaves) × (l.sets ≡ with_leaves l.w l.counts l.legs l.leaves l.initial.sets l.i)

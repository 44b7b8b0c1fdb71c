use Rattle.live.specs.Merged.{written_to}
use Prim.Native.Nat.{◌≤◌}
use mathlib.Core.Path.{◌≡◌}
use Rattle.live.proofs.put_merged.Given as goal

abbrev pub invariant-loop-k : goal.invariant-loop-k
invariant-loop-k l = (l.k ≤ l.w) × (l.sets ≡ written_to l.initial.sets l.w l.x l.y l.z l.k)

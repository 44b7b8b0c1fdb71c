use Prim.Native.Nat.{◌*◌, ◌≤◌}
use mathlib.Core.Path.{◌≡◌}
use lib.ListN.{length}
use Rattle.partition.specs.Common.{common_below}
use Rattle.partition.proofs.common.Given as goal

abbrev pub invariant-loop-k : goal.invariant-loop-k
invariant-loop-k l = (l.k ≤ l.w) × (l.n ≡ length (common_below l.words l.w l.a l.b (l.k * 64))) × (l.n ≤ l.k * 64)

use Rattle.spec.specs.ImproveClaims.{most_splits}
use Prim.Native.Nat.{◌^◌, ◌-◌, ◌≤◌}
use mathlib.Core.Path.{◌≡◌}
use Rattle.bits.proofs.most_splits.Given as goal

abbrev pub invariant-loop-k : goal.invariant-loop-k
invariant-loop-k l = (l.k ≤ l.n) × (l.splits ≡ most_splits l.k) × (l.masks ≡ 2 ^ l.k)

abbrev pub decreases-loop-k : goal.decreases-loop-k
decreases-loop-k l = l.n - l.k

use Prim.Native.Nat.{◌*◌, ◌≤◌}
use Rattle.pricing.specs.Sums.{slice_share}
use Rattle.spec.specs.Lists.{range, sum_of}
use mathlib.Core.Path.{◌≡◌}
use lib.ListN.{length}
use Rattle.pricing.proofs.slice_bits.Given as goal

abbrev pub invariant-loop-flag : goal.invariant-loop-flag
invariant-loop-flag l = (l.sum ≡ sum_of (slice_share l.weights l.flags) (range (length l.yielded))) × (l.sum ≤ length l.yielded * 8)

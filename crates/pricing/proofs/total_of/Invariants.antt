use Rattle.pricing.specs.Sums.{work_sum}
use Prim.Native.Nat.{◌<◌}
use mathlib.Core.Path.{◌≡◌}
use Rattle.pricing.proofs.total_of.Given as goal

abbrev pub invariant-loop-bits : goal.invariant-loop-bits
invariant-loop-bits l = (l.sum ≡ work_sum l.works l.n l.bits-index) × (l.sum < 9007199254740992)

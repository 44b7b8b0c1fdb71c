-- When a rebuild happens: "if best, as f64, is below old × (1 − 1e-9) in f64". Definitions only. Assumes nothing.
use Rattle.std.specs.Prelude.{Bool, ℕ, pos}
use Rattle.std.specs.Float.{binary64}
use Rattle.std.specs.Float.Ieee.{mul, sub, lt, of_int}
use Rattle.spec.specs.Floats.{decimal}

unfoldable pub undercuts : ℕ → ℕ → Bool
undercuts best old =
    lt (of_int binary64 (pos best)) (mul binary64 (of_int binary64 (pos old)) (sub binary64 (decimal 1 1) (decimal 1 1000000000)))

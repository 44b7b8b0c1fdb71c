-- f64: constants, whole numbers, the greater and the lesser of two, rounding. Definitions only. Assumes nothing.
use Rattle.std.specs.Prelude.{false, cond, ℕ, ◌+◌, ◌*◌, ◌/◌, pos, negsuc, Float}
use Rattle.std.specs.Float.{nan, inf, fin, binary64}
use Rattle.std.specs.Float.Ieee.{up, down, round, mul, div, lt, of_int}

-- a decimal constant is the f64 nearest to a fraction of whole numbers
abbrev pub decimal : ℕ → ℕ → Float
decimal a b = round binary64 false a b

-- 2^-53
abbrev pub two⁻⁵³ : Float
two⁻⁵³ = fin false 1 (negsuc 52)

-- 0.0
abbrev pub zero_float : Float
zero_float = fin false 0 (pos 0)

-- 1e-6 and 1e-9
abbrev pub micro : Float
micro = decimal 1 1000000

abbrev pub nano : Float
nano = decimal 1 1000000000

-- a whole number as f64
abbrev pub whole_float : ℕ → Float
whole_float n = of_int binary64 (pos n)

-- of two numbers
abbrev pub greater : Float → Float → Float
greater x y = cond (lt x y) y x

abbrev pub lesser : Float → Float → Float
lesser x y = cond (lt y x) y x

-- The nearest whole number, a half away from zero, with the sign of x: the whole part of |x| + 1 / 2, which is an f64 for every finite x.
unfoldable pub round_away : Float → Float
round_away nan = nan
round_away (inf s) = inf s
round_away (fin s m e) = round binary64 s ((m * up e * 2 + down e) / (down e * 2)) 1

-- "`round_to`: own rounding, halves away from zero": the nearest multiple of q
unfoldable pub round_to : Float → Float → Float
round_to x q = mul binary64 (round_away (div binary64 x q)) q

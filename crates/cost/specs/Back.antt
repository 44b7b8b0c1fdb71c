-- The exact total. Assumes nothing.
use Rattle.spec.specs.declared.Total.{Total}
use Rattle.spec.specs.declared.Total.TheVariants.{Exact, Beyond}
use Rattle.std.specs.Prelude.{ℕ}

-- an exact total, and 0 for one that is beyond
abbrev pub exact_of : Total → ℕ
exact_of (Exact x) = x
exact_of Beyond = 0

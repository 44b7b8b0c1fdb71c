-- What a lent list has after it is filled, copied to, written into, or cleared. Definitions only. Assumes nothing.
use Rattle.std.specs.Prelude.{List, [], ◌∷◌, ◌++◌, ℕ, take, drop, replicate}

module _ {A : Type 0} where
  -- n times x
  unfoldable pub filled : ℕ → A → List A
  filled n x = replicate n x

  -- s over the front of d, as far as d goes
  unfoldable pub over : List A → List A → List A
  over [] s = []
  over (x ∷ d) [] = x ∷ d
  over (x ∷ d) (y ∷ s) = y ∷ over d s

  -- the first n of s over the front of d
  unfoldable pub copied : List A → List A → ℕ → List A
  copied d s n = over d (take n s)

  -- s over what stands in d from `at` on
  unfoldable pub placed : List A → ℕ → List A → List A
  placed d at s = take at d ++ over (drop at d) s

-- the first m words 0, or all where there are fewer
unfoldable pub cleared : List ℕ → ℕ → List ℕ
cleared ws m = over ws (filled m 0)

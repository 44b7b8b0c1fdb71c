-- What is claimed of the calls: "Other calls check by number". Definitions only; proofs in CallLaws of laws. Assumes nothing.
use Rattle.std.specs.Prelude.{true, false, List, [], ◌∷◌, map, ◌≡◌, ℕ}
use Rattle.spec.specs.Lists.{from}
use Rattle.spec.specs.Refusal.{number_of, Check}
use Rattle.spec.specs.Network.{Network}
use Rattle.spec.specs.Calls.{PriceRoom, valid_checks, order_checks, same_checks, price_checks, greedy_checks, bisection_checks, improve_checks, slice_checks}

-- the numbers of some checks
abbrev pub numbers_of : List Check → List ℕ
numbers_of cs = map (λ c. number_of c.gives) cs

-- which refusals a call checks, in which order, whatever it is handed
pub record ByNumber (N : Network) : Type 0 where
  pub valid : (words : ℕ) (kids : List ℕ) → numbers_of (valid_checks N words kids) ≡ from 3 6
  pub order : (words places : ℕ) (kids : List ℕ) → numbers_of (order_checks N words places kids) ≡ from 3 6
  pub same : (words : ℕ) (kids others : List ℕ) → numbers_of (same_checks N words kids others) ≡ 3 ∷ 4 ∷ 5 ∷ 6 ∷ 7 ∷ 8 ∷ 8 ∷ []
  pub price : (words : ℕ) (room : PriceRoom) (flags kids : List ℕ) → numbers_of (price_checks N words room flags kids) ≡ from 3 7
  pub greedy : (words places : ℕ) → numbers_of (greedy_checks N words places) ≡ from 3 5
  pub bisection : (i words places : ℕ) → numbers_of (bisection_checks N i words places) ≡ from 3 5
  pub improve : (k passes words : ℕ) (flags kids : List ℕ) → numbers_of (improve_checks N k passes words flags kids) ≡ from 3 9
  pub slice_improving : (words flag_places : ℕ) (kids : List ℕ)
      → numbers_of (slice_checks N true words flag_places kids) ≡ 3 ∷ 4 ∷ 5 ∷ 6 ∷ 7 ∷ 8 ∷ 10 ∷ 11 ∷ []
  pub slice : (words flag_places : ℕ) (kids : List ℕ)
      → numbers_of (slice_checks N false words flag_places kids) ≡ 3 ∷ 4 ∷ 5 ∷ 6 ∷ 7 ∷ 8 ∷ 10 ∷ []

abbrev pub ChecksByNumber : Type 0
ChecksByNumber = (N : Network) → ByNumber N

-- What is claimed of bisection. Definitions only; proofs in BisectionLaws, BisectionHalves, BisectionRefusals and BisectionTaken of laws.
-- Assumes nothing.
use Rattle.std.specs.Prelude.{true, false, List, [], ◌∷◌, ◌++◌, ◌⊎◌, ◌≡◌, ℕ, zero, suc, ◌+◌, ◌<◌, ◌≤◌, eqb, Float, length, take, Err, Ok}
use Rattle.spec.specs.Lists.{count}
use Rattle.spec.specs.Network.{Network, leaf_count}
use Rattle.spec.specs.Tree.{Pair, valid}
use Rattle.spec.specs.declared.Refusal.{Refusal}
use Rattle.spec.specs.declared.Refusal.TheVariants.{TableTooWide, DrawsExhausted}
use Rattle.spec.specs.Draws.{Words}
use Rattle.spec.specs.Bisection.{left_half, right_half, bisect_rec, Bisected, bisection}

-- LAW B1. Whatever the network contains, and whatever the words: if bisection answers, its array is valid.
abbrev pub BisectionValid : Type 0
BisectionValid = (N : Network) (i cutoff : ℕ) (words : List ℕ) (b : Bisected) → bisection N i cutoff words ≡ Ok b → valid (leaf_count N) b.pairs ≡ true

-- LAW B2. "halves shrink": two halves that are not empty are both shorter than the whole, and have each of its leaves between them.
pub record Shrink (part leaves : List ℕ) : Type 0 where
  pub left : length (left_half part leaves) < length leaves
  pub right : length (right_half part leaves) < length leaves
  pub members : (j : ℕ) → count j (left_half part leaves) + count j (right_half part leaves) ≡ count j leaves

abbrev pub HalvesShrink : Type 0
HalvesShrink = (part leaves : List ℕ) → eqb (length (left_half part leaves)) 0 ≡ false → eqb (length (right_half part leaves)) 0 ≡ false → Shrink part leaves

-- So the number of leaves is fuel enough: more changes nothing.
abbrev pub FuelEnough : Type 0
FuelEnough = (N : Network) (eps : Float) (cutoff fuel : ℕ) (leaves : List ℕ) (a : List Pair) (ws : Words) → length leaves ≤ fuel
    → bisect_rec N eps cutoff fuel leaves a ws ≡ bisect_rec N eps cutoff (length leaves) leaves a ws

-- LAW B4. Bisection refuses by nothing but 12 and 13.
abbrev pub OnlyWideOrExhausted : Type 0
OnlyWideOrExhausted = (N : Network) (i cutoff : ℕ) (words : List ℕ) (r : Refusal) → bisection N i cutoff words ≡ Err r
    → (r ≡ TableTooWide) ⊎ (r ≡ DrawsExhausted)

-- LAW B5. Where nothing is refused, words past those taken do not matter.
abbrev pub TakenDecide : Type 0
TakenDecide = (N : Network) (i cutoff : ℕ) (words : List ℕ) (b : Bisected) → bisection N i cutoff words ≡ Ok b
    → (b.taken ≤ length words) × ((more : List ℕ) → bisection N i cutoff (take b.taken words ++ more) ≡ Ok b)

-- LAW B6. 13 comes with fewer words than are taken: with any fewer, and if more words bring an answer then with these alone. (Where in the run: LAW B9,
-- `ExhaustedByDraws` of EndClaims.)
abbrev pub ExhaustedShort : Type 0
ExhaustedShort = (N : Network) (i cutoff : ℕ) (words : List ℕ) (b : Bisected) (k : ℕ) → bisection N i cutoff words ≡ Ok b → k < b.taken
    → bisection N i cutoff (take k words) ≡ Err DrawsExhausted

abbrev pub ExhaustedJust : Type 0
ExhaustedJust = (N : Network) (i cutoff : ℕ) (words more : List ℕ) (b : Bisected) → bisection N i cutoff words ≡ Err DrawsExhausted
    → bisection N i cutoff (words ++ more) ≡ Ok b → length words < b.taken

-- And words suffice: of any row without end, some first ones are not refused 13.
abbrev pub first_of : (ℕ → ℕ) → ℕ → List ℕ
first_of s zero = []
first_of s (suc k) = s 0 ∷ first_of (λ j. s (suc j)) k

abbrev pub WordsSuffice : Type 0
WordsSuffice = (N : Network) (i cutoff : ℕ) (s : ℕ → ℕ) → (k : ℕ) × (bisection N i cutoff (first_of s k) ≡ Err DrawsExhausted → ⊥)

-- 12 stands: no words after those taken by then change it. (That it is a small end's, as greedy meets it: LAW B8, `WideByGreedy` of EndClaims.)
abbrev pub WideStands : Type 0
WideStands = (N : Network) (i cutoff : ℕ) (words more : List ℕ) → bisection N i cutoff words ≡ Err TableTooWide
    → bisection N i cutoff (words ++ more) ≡ Err TableTooWide

-- So t words are taken by then: with them any words after are of no account, and with fewer it is refused 13.
pub record MeetsWide (N : Network) (i cutoff : ℕ) (words : List ℕ) : Type 0 where
  pub t : ℕ
  pub within : t ≤ length words
  pub wide : (more : List ℕ) → bisection N i cutoff (take t words ++ more) ≡ Err TableTooWide
  pub short : (k : ℕ) → k < t → bisection N i cutoff (take k words) ≡ Err DrawsExhausted

abbrev pub WideMet : Type 0
WideMet = (N : Network) (i cutoff : ℕ) (words : List ℕ) → bisection N i cutoff words ≡ Err TableTooWide → MeetsWide N i cutoff words

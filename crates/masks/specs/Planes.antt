-- Weights by their binary digits: four words that have a digit each of 64 weights, and the weight of a word by them. Assumes nothing.
use Rattle.std.specs.Prelude.{◌≡◌, refl, List, [], ℕ, zero, suc, ◌+◌, ◌-◌, ◌*◌, ◌/◌, ◌%◌, ◌^◌, ◌≤◌, ◌<◌, get_or, min}
use Rattle.std.proofs.Common.{sym, ap, ◌∙◌, arith, pow-suc, lit<}
use Rattle.std.proofs.Math.Nat.{two-pow-succ}
use Rattle.std.proofs.Math.Decide.{ℕ_discrete}
use Rattle.std.specs.Int.Bits.{bit_and, and_step, and_zero_l}
use Rattle.std.specs.Int.Count.{ones, ones_step}
use Rattle.spec.specs.Lists.{sum_of}
use Rattle.laws.specs.Masks.{places_from}
use Rattle.bits.specs.Bit.{bit, bit-zero, bit-suc}
use Rattle.bits.specs.Splits.{ones-zero}
use Rattle.slots.specs.Weigh.{Light, open_weight, weigh_end}
use Rattle.masks.specs.Weights.{weight_below}
use Rattle.masks.specs.Singles.{both_places}

-- the weights of the n places from `base` on have their binary digits in four words, each at its place
abbrev pub HasDigits : List ℕ → ℕ → ℕ → ℕ → ℕ → ℕ → ℕ → Type 0
HasDigits wt base n a b c d = (i : ℕ) → i < n → get_or wt (base + i) 0 ≡ bit a i + 2 * bit b i + 4 * bit c i + 8 * bit d i

-- the digits that x has in common with each, times the digit's power of two
abbrev pub counted : ℕ → ℕ → ℕ → ℕ → ℕ → ℕ
counted x a b c d = ones (bit_and x a) + 2 * ones (bit_and x b) + 4 * ones (bit_and x c) + 8 * ones (bit_and x d)

-- ---- common digits, the lowest apart ----

ones_parts : (a h m : ℕ) → a ≡ h * 2 + m → m < 2 → ones a ≡ m + ones h
ones_parts a h m e l =
    let f : a / 2 ≡ h = omega (arith, e) in
    let g : a % 2 ≡ m = omega (arith, e) in
    rw (ones_step a, f, g) refl

min_zero : (b : ℕ) → b < 2 → min 0 b ≡ 0
min_zero zero h = refl
min_zero (suc zero) h = refl
min_zero (suc (suc b)) h = absurd (omega arith)

min_one : (b : ℕ) → b < 2 → min 1 b ≡ b
min_one zero h = refl
min_one (suc zero) h = refl
min_one (suc (suc b)) h = absurd (omega arith)

and_even : (x p : ℕ) → x % 2 ≡ 0 → ones (bit_and x p) ≡ ones (bit_and (x / 2) (p / 2))
and_even x p e =
    let z = ones_parts (bit_and x p) (bit_and (x / 2) (p / 2)) 0 (and_step x p ∙ rw (e, min_zero (p % 2) (omega arith)) refl) (omega arith) in
    omega (arith, z)

and_odd : (x p : ℕ) → x % 2 ≡ 1 → ones (bit_and x p) ≡ p % 2 + ones (bit_and (x / 2) (p / 2))
and_odd x p e =
    ones_parts (bit_and x p) (bit_and (x / 2) (p / 2)) (p % 2) (and_step x p ∙ rw (e, min_one (p % 2) (omega arith)) refl) (omega arith)

none_common : (x a b c d : ℕ) → x ≡ 0 → 0 ≡ counted x a b c d
none_common x a b c d z = rw (z, and_zero_l a, and_zero_l b, and_zero_l c, and_zero_l d, ones-zero) refl

-- ---- a word's weight ----

planes_from : (wt : List ℕ) (n base x a b c d : ℕ) → x < 2 ^ n → HasDigits wt base n a b c d
    → counted x a b c d ≡ sum_of (open_weight wt []) (places_from base n x)
planes_from wt zero base x a b c d l h =
    sym (none_common x a b c d (omega arith))
planes_from wt (suc n) base x a b c d l h =
    let first : get_or wt base 0 ≡ a % 2 + 2 * (b % 2) + 4 * (c % 2) + 8 * (d % 2) =
    (let z : base ≡ base + 0 = omega arith in ap (λ j. get_or wt j 0) z ∙ h 0 (omega arith) ∙ rw (bit-zero a, bit-zero b, bit-zero c, bit-zero d) refl) in
    let later : HasDigits wt (suc base) n (a / 2) (b / 2) (c / 2) (d / 2) =
    (λ i k. let z : suc base + i ≡ base + suc i = omega arith in
    ap (λ j. get_or wt j 0) z ∙ h (suc i) (omega arith) ∙ rw (bit-suc a i, bit-suc b i, bit-suc c i, bit-suc d i) refl) in
    let ih = planes_from wt n (suc base) (x / 2) (a / 2) (b / 2) (c / 2) (d / 2) (omega (arith, pow-suc 2 n)) later in
    elim (ℕ_discrete (x % 2) 0) [
      | yes e ↦ rw e (omega (arith, ih, and_even x a e, and_even x b e, and_even x c e, and_even x d e))
      | no f ↦ (let e : x % 2 ≡ 1 = omega (arith, f) in
          rw e (omega (arith, ih, first, and_odd x a e, and_odd x b e, and_odd x c e, and_odd x d e)))
    ]

planes_weight : (wt : List ℕ) (n base x a b c d : ℕ) → x < 2 ^ n → HasDigits wt base n a b c d → counted x a b c d ≡ weight_below wt base n x
planes_weight wt n base x a b c d l h =
    planes_from wt n base x a b c d l h ∙ ap (sum_of (open_weight wt [])) (both_places base n x)

pub planes_word : (wt : List ℕ) (base x a b c d s : ℕ) → Light wt → x < 2 ^ 64 → HasDigits wt base 64 a b c d → s ≡ counted x a b c d
    → (s ≡ weight_below wt base 64 x) × (s ≤ 512)
planes_word wt base x a b c d s w l h e =
    let z : s ≡ weight_below wt base 64 x = e ∙ planes_weight wt 64 base x a b c d l h in
    weigh_end wt [] base w x [] s l refl (omega (arith, z))

pub zero_word : (wt : List ℕ) (base x a b c d : ℕ) → Light wt → x ≡ 0 → HasDigits wt base 64 a b c d
    → (0 ≡ weight_below wt base 64 x) × (0 ≤ 512)
zero_word wt base x a b c d w z h = planes_word wt base x a b c d 0 w (rw z (lit< tt)) h (none_common x a b c d z)

-- ---- the words are made from the last weight to the first ----

-- the lowest digit of a word that is moved up by one place, and the others
lowest : (p r : ℕ) → r < 2 → bit (2 * p + r) 0 ≡ r
lowest p r h = bit-zero (2 * p + r) ∙ omega arith

others : (p r i : ℕ) → r < 2 → bit (2 * p + r) (suc i) ≡ bit p i
others p r i h = bit-suc (2 * p + r) i ∙ ap (λ q. bit q i) (let z : (2 * p + r) / 2 ≡ p = omega arith in z)

-- a weight more, the one before place i
module _ (wt : List ℕ) (base i a b c d : ℕ) (some : 0 < i) (most : i ≤ 64) where
  abbrev w : ℕ
  w = get_or wt (base + (i - 1)) 0

  pub one_before : (p q r s : ℕ) → w < 16 → HasDigits wt (base + i) (64 - i) a b c d
      → (p ≡ 2 * a + w % 2) × (q ≡ 2 * b + w / 2 % 2) × (r ≡ 2 * c + w / 4 % 2) × (s ≡ 2 * d + w / 8 % 2)
      → HasDigits wt (base + (i - 1)) (64 - (i - 1)) p q r s
  one_before p q r s l h e zero k =
      let z : base + (i - 1) + 0 ≡ base + (i - 1) = omega arith in
      rw (z, e.0, e.1, e.2, e.3, lowest a (w % 2) (omega arith), lowest b (w / 2 % 2) (omega arith), lowest c (w / 4 % 2) (omega arith), lowest d (w / 8 % 2) (omega arith)) (omega (arith, l))
  one_before p q r s l h e (suc j) k =
      let z : base + (i - 1) + suc j ≡ base + i + j = omega arith in
      rw (z, e.0, e.1, e.2, e.3, others a (w % 2) j (omega arith), others b (w / 2 % 2) j (omega arith), others c (w / 4 % 2) j (omega arith), others d (w / 8 % 2) j (omega arith)) (h j (omega arith))

pub still_fits : (i p r x : ℕ) → 0 < i → i ≤ 64 → p < 2 ^ (64 - i) → r < 2 → x ≡ 2 * p + r → x < 2 ^ (64 - (i - 1))
still_fits i p r x a b h l e =
    let z : 64 - (i - 1) ≡ suc (64 - i) = omega arith in rw z (omega (arith, two-pow-succ (64 - i)))

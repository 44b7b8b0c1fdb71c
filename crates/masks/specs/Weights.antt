-- The weights of a set of local indices: a word weighed place by place, and the two words of a row. Assumes nothing.
use Rattle.std.specs.Prelude.{Bool, ◌||◌, List, [], ◌≡◌, refl, ℕ, zero, suc, ◌+◌, ◌-◌, ◌*◌, ◌≤◌, ◌<◌, eqb, get_or}
use Rattle.std.proofs.Common.{sym, ap, ap₂, ◌∙◌, arith}
use Rattle.std.specs.Int.Bits.{bit_or}
use Rattle.spec.specs.Lists.{keep, from, range, sum_of}
use Rattle.laws.specs.ListLaws.{sum_append}
use Rattle.bits.specs.Bit.{bit, bit-lt}
use Rattle.bits.specs.Digits.{digit, or_digits}
use Rattle.bits.specs.Lowest.{Tests, places}
use Rattle.slots.specs.Rising.{keep-add, word_more}
use Rattle.slots.specs.Weigh.{open_weight, weighed, weighed_none}
use Rattle.masks.specs.Rows.{row_digit, in_either}

-- the weights of the places base + i of the set digits i of x, of its n lowest
abbrev pub weight_below : List ℕ → ℕ → ℕ → ℕ → ℕ
weight_below wt base n x = sum_of (open_weight wt []) (places base n x)

pub below_none : (wt : List ℕ) (base x : ℕ) → 0 ≡ weight_below wt base 0 x
unfolding places
below_none wt base x = refl

one_place : (wt : List ℕ) (p : ℕ → Bool) (j b : ℕ) → b < 2 → p j ≡ eqb b 1 → sum_of (open_weight wt []) (keep p (from j 1)) ≡ b * get_or wt j 0
one_place wt p j zero h e = rw e (omega arith)
one_place wt p j (suc zero) h e = rw e (omega arith)
one_place wt p j (suc (suc b)) h e = absurd (omega arith)

-- one place more
pub below_next : (wt : List ℕ) (base i x sum : ℕ) → sum ≡ weight_below wt base i x → sum + bit x i * get_or wt (base + i) 0 ≡ weight_below wt base (i + 1) x
unfolding places
below_next wt base i x sum h =
    let p : ℕ → Bool = λ j. digit x (j - base) in
    let e : base + i - base ≡ i = omega arith in
    omega (
      arith,
      h,
      ap (sum_of (open_weight wt [])) (keep-add p base i 1),
      sum_append (open_weight wt []) (keep p (from base i)) (keep p (from (base + i) 1)),
      one_place wt p (base + i) (bit x i) (bit-lt x i) (ap (digit x) e),
    )

-- a digit times a weight is at most the weight
pub digit_weight : (x i w : ℕ) → bit x i * w ≤ w
digit_weight x i w = small (bit x i) (bit-lt x i)
  where
    small : (b : ℕ) → b < 2 → b * w ≤ w
    small zero h = omega arith
    small (suc zero) h = omega arith
    small (suc (suc b)) h = absurd (omega arith)

-- both words of two rows
module _ (a b wt : List ℕ) where
  tests : (k : ℕ) → Tests (in_either a b) (k * 64) 64 (bit_or (get_or a k 0) (get_or b k 0))
  tests k i h =
      ap₂ (λ (x y : Bool). x || y) (row_digit a k i h) (row_digit b k i h) ∙ sym (or_digits (get_or a k 0) (get_or b k 0) i)

  next : (k sum r : ℕ) → sum ≡ weighed wt [] (in_either a b) (k * 64) → r ≡ weight_below wt (k * 64) 64 (bit_or (get_or a k 0) (get_or b k 0))
      → sum + r ≡ weighed wt [] (in_either a b) ((k + 1) * 64)
  unfolding weighed
  next k sum r h er =
      let o = bit_or (get_or a k 0) (get_or b k 0) in
      omega (
        arith,
        h,
        er,
        ap (sum_of (open_weight wt [])) (word_more 64 (in_either a b) k o (tests k)),
        sum_append (open_weight wt []) (keep (in_either a b) (range (k * 64))) (places (k * 64) 64 o),
      )

  pub two_words : (p q : ℕ) → p ≡ weight_below wt 0 64 (bit_or (get_or a 0 0) (get_or b 0 0)) → q ≡ weight_below wt 64 64 (bit_or (get_or a 1 0) (get_or b 1 0))
      → p + q ≡ weighed wt [] (in_either a b) 128
  two_words p q hp hq =
      let first : 0 + p ≡ weighed wt [] (in_either a b) 64 = next 0 0 p (weighed_none wt [] (in_either a b)) hp in
      next 1 p q (omega (arith, first)) hq

-- The set digits of a word, walked from the lowest up: x & (x - 1) is x without its lowest set digit, whose place is the count of
-- trailing zeros. Assumes nothing.
use Rattle.std.specs.Prelude.{Bool, true, false, List, [], ◌∷◌, ◌≡◌, ℕ, zero, suc, ◌+◌, ◌-◌, ◌*◌, ◌/◌, ◌%◌, ◌^◌, ◌<◌, eqb, length}
use Rattle.std.proofs.Common.{sym, ◌∙◌, ap, arith, pow-suc}
use Rattle.std.proofs.Math.Decide.{ℕ_discrete}
use Rattle.std.specs.Int.Bits.{bit_and, and_step}
use Rattle.std.proofs.lemmas.Nat.{and_le_r, ones-le}
use Rattle.std.specs.Int.Count.{count_trailing_zeros, ones, ones_step}
use Rattle.spec.specs.Lists.{keep, from}
use Rattle.laws.specs.ListLaws.{keep_ext_from, keep_none_from}
use Rattle.laws.specs.Masks.{clear_odd}
use Rattle.bits.specs.Bit.{bit-zero, bit-suc}
use Rattle.bits.specs.Digits.{digit, zero_digits}

pub drop_less : (x : ℕ) → 0 < x → bit_and x (x - 1) < x
drop_less x p = omega (arith, and_le_r x (x - 1))

pub tz_small : (k x : ℕ) → 0 < x → x < 2 ^ k → count_trailing_zeros k x < k
unfolding count_trailing_zeros
tz_small zero x p b = absurd (omega arith)
tz_small (suc k) x p b =
    elim (ℕ_discrete (x % 2) 0) [
      | yes e ↦ rw e (omega (arith, tz_small k (x / 2) (omega arith) (omega (arith, pow-suc 2 k))))
      | no f ↦ (let e : x % 2 ≡ 1 = omega (arith, f) in rw e (omega arith))
    ]

drop_even : (x : ℕ) → 0 < x → x % 2 ≡ 0 → bit_and x (x - 1) ≡ bit_and (x / 2) (x / 2 - 1) * 2
drop_even x p e = let h : (x - 1) / 2 ≡ x / 2 - 1 = omega arith in and_step x (x - 1) ∙ rw (h, e) (omega arith)

-- p tests, from place b on, the digits of x below k
abbrev pub Tests : (ℕ → Bool) → ℕ → ℕ → ℕ → Type 0
Tests p b k x = (i : ℕ) → i < k → p (b + i) ≡ digit x i

first_test : (p : ℕ → Bool) (b k x : ℕ) → Tests p b (suc k) x → p b ≡ eqb (x % 2) 1
first_test p b k x h = ap p (omega arith) ∙ h 0 (omega arith) ∙ rw (bit-zero x)

later_tests : (p : ℕ → Bool) (b k x : ℕ) → Tests p b (suc k) x → Tests p (suc b) k (x / 2)
later_tests p b k x h i q = ap p (omega arith) ∙ h (suc i) (omega arith) ∙ rw (bit-suc x i)

-- two tests of the same digits pass the same places
same_tests : (p q : ℕ → Bool) (b k x : ℕ) → Tests p b k x → Tests q b k x → keep p (from b k) ≡ keep q (from b k)
same_tests p q b k x hp hq =
    keep_ext_from p q b k (λ j lo hi.
    let e : j ≡ b + (j - b) = omega arith in
    ap p e ∙ hp (j - b) (omega arith) ∙ sym (hq (j - b) (omega arith)) ∙ ap q (sym e))

-- where p tests the digits of x, and q those of x without its lowest set digit
pub keep_step : (k b x : ℕ) (p q : ℕ → Bool) → 0 < x → x < 2 ^ k → Tests p b k x → Tests q b k (bit_and x (x - 1))
    → keep p (from b k) ≡ (b + count_trailing_zeros k x) ∷ keep q (from b k)
unfolding count_trailing_zeros
keep_step zero b x p q pos lt hp hq = absurd (omega arith)
keep_step (suc k) b x p q pos lt hp hq =
    elim (ℕ_discrete (x % 2) 0) [
      | yes e ↦ (let d = drop_even x pos e in
          let h : bit_and x (x - 1) / 2 ≡ bit_and (x / 2) (x / 2 - 1) = omega (arith, d) in
          let z : bit_and x (x - 1) % 2 ≡ 0 = omega (arith, d) in
          let ep : p b ≡ false = first_test p b k x hp ∙ rw e in
          let eq : q b ≡ false = first_test q b k (bit_and x (x - 1)) hq ∙ rw z in
          let t : suc b + count_trailing_zeros k (x / 2) ≡ b + suc (count_trailing_zeros k (x / 2)) = omega arith in
          let ih : keep p (from (suc b) k) ≡ (suc b + count_trailing_zeros k (x / 2)) ∷ keep q (from (suc b) k) =
          keep_step k (suc b) (x / 2) p q (omega arith) (omega (arith, pow-suc 2 k)) (later_tests p b k x hp)
          (rw h at (later_tests q b k (bit_and x (x - 1)) hq)) in
          rw (ep, eq, e) (ih ∙ ap (λ (n : ℕ). n ∷ keep q (from (suc b) k)) t))
      | no f ↦ (let e : x % 2 ≡ 1 = omega (arith, f) in
          let d = clear_odd x e in
          let h : bit_and x (x - 1) / 2 ≡ x / 2 = omega (arith, d) in
          let z : bit_and x (x - 1) % 2 ≡ 0 = omega (arith, d) in
          let ep : p b ≡ true = first_test p b k x hp ∙ rw e in
          let eq : q b ≡ false = first_test q b k (bit_and x (x - 1)) hq ∙ rw z in
          let t : b + 0 ≡ b = omega arith in
          rw (ep, eq, e, t)
          (ap (λ (l : List ℕ). b ∷ l)
          (same_tests p q (suc b) k (x / 2) (later_tests p b k x hp) (rw h at (later_tests q b k (bit_and x (x - 1)) hq)))))
    ]

-- the places b + i of the set digits i of x, of its k lowest, rising
unfoldable pub places : ℕ → ℕ → ℕ → List ℕ
places b k x = keep (λ j. digit x (j - b)) (from b k)

own_tests : (b k x : ℕ) → Tests (λ j. digit x (j - b)) b k x
own_tests b k x i h = ap (digit x) (omega arith)

-- what passes a test of the digits of x
pub keep-places : (p : ℕ → Bool) (b k x : ℕ) → Tests p b k x → keep p (from b k) ≡ places b k x
unfolding places
keep-places p b k x h = same_tests p (λ j. digit x (j - b)) b k x h (own_tests b k x)

-- the lowest set digit is the first place, and the others are those of x & (x - 1)
pub places_step : (b k x : ℕ) → 0 < x → x < 2 ^ k → places b k x ≡ (b + count_trailing_zeros k x) ∷ places b k (bit_and x (x - 1))
unfolding places
places_step b k x pos lt =
    keep_step k b x (λ j. digit x (j - b)) (λ j. digit (bit_and x (x - 1)) (j - b)) pos lt (own_tests b k x) (own_tests b k (bit_and x (x - 1)))

pub places_none : (b k : ℕ) → places b k 0 ≡ []
unfolding places
places_none b k = keep_none_from (λ j. digit 0 (j - b)) b k (λ j lo hi. zero_digits (j - b))

-- as many as x has set digits
keep_ones : (k b x : ℕ) (p : ℕ → Bool) → x < 2 ^ k → Tests p b k x → length (keep p (from b k)) ≡ ones x
keep_ones zero b x p lt h = omega (arith, ones-le 0 x lt)
keep_ones (suc k) b x p lt h =
    let ih : length (keep p (from (suc b) k)) ≡ ones (x / 2) =
    keep_ones k (suc b) (x / 2) p (omega (arith, pow-suc 2 k)) (later_tests p b k x h) in
    elim (ℕ_discrete (x % 2) 0) [
      | yes e ↦ (let ep : p b ≡ false = first_test p b k x h ∙ rw e in rw ep (omega (arith, ih, ones_step x)))
      | no f ↦ (let e : x % 2 ≡ 1 = omega (arith, f) in
          let ep : p b ≡ true = first_test p b k x h ∙ rw e in rw ep (omega (arith, ih, ones_step x)))
    ]

pub places_ones : (b k x : ℕ) → x < 2 ^ k → length (places b k x) ≡ ones x
unfolding places
places_ones b k x lt = keep_ones k b x (λ j. digit x (j - b)) lt (own_tests b k x)

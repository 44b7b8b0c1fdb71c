-- The places of a mask's bits, in the two ways in which they are listed; a mask with one bit is a power of two. Assumes nothing.
use Rattle.std.specs.Prelude.{Bool, ◌≡◌, refl, ℕ, zero, suc, ◌+◌, ◌-◌, ◌*◌, ◌/◌, ◌%◌, ◌^◌, ◌≤◌, ◌<◌, eqb}
use mathlib.Core.List.{[], ◌∷◌, head-eq_of_cons-eq}
use Rattle.std.proofs.Common.{sym, ap, ◌∙◌, arith}
use Rattle.std.proofs.Math.Decide.{ℕ_discrete}
use Rattle.std.proofs.Math.Nat.{two-pow-succ}
use Rattle.std.specs.Int.Bits.{bit_and, and_step, and_self}
use Rattle.std.specs.Int.Count.{count_trailing_zeros}
use Rattle.spec.specs.Lists.{keep, from}
use Rattle.laws.specs.Masks.{places_from, Lowest}
use Rattle.bits.specs.Bit.{bit-zero, bit-suc}
use Rattle.bits.specs.Digits.{digit}
use Rattle.bits.specs.Lowest.{places, keep-places, places_step}

pub own_bits : (x : ℕ) → x < 2 ^ x
own_bits zero = omega arith
own_bits (suc x) = omega (arith, own_bits x, two-pow-succ x)

-- bits past a mask's own change nothing
pub no_bits : (k n : ℕ) → places_from k n 0 ≡ []
no_bits k zero = refl
no_bits k (suc n) = no_bits (suc k) n

pub same_places : (a b k s : ℕ) → s < 2 ^ a → s < 2 ^ b → places_from k a s ≡ places_from k b s
same_places zero b k s h g = let e : s ≡ 0 = omega arith in sym (ap (places_from k b) e ∙ no_bits k b)
same_places (suc a) zero k s h g = let e : s ≡ 0 = omega arith in ap (places_from k (suc a)) e ∙ no_bits k (suc a)
same_places (suc a) (suc b) k s h g =
    rw (same_places a b (suc k) (s / 2) (omega (arith, two-pow-succ a)) (omega (arith, two-pow-succ b)))

-- ---- both lists ----

pub both_places : (k n s : ℕ) → places_from k n s ≡ places k n s
unfolding places
both_places k zero s = refl
both_places k (suc n) s =
    let p : ℕ → Bool = λ j. digit s (j - k) in
    let first : p k ≡ eqb (s % 2) 1 = ap (digit s) (let z : k - k ≡ 0 = omega arith in z) ∙ ap (λ x. eqb x 1) (bit-zero s) in
    let later : keep p (from (suc k) n) ≡ places_from (suc k) n (s / 2) =
    keep-places p (suc k) n (s / 2) (λ i h. ap (digit s) (let z : suc k + i - k ≡ suc i = omega arith in z) ∙ ap (λ x. eqb x 1) (bit-suc s i))
    ∙ sym (both_places (suc k) n (s / 2)) in
    rw (first, later)

-- the lowest place is the count of trailing zeros
pub lowest_place : (n s : ℕ) (l : Lowest 0 n s (bit_and s (s - 1))) → 1 ≤ s → s < 2 ^ n → l.place ≡ count_trailing_zeros n s
lowest_place n s l a b =
    let e : l.place ∷ places_from 0 n (bit_and s (s - 1)) ≡ (0 + count_trailing_zeros n s) ∷ places 0 n (bit_and s (s - 1)) =
    sym l.all ∙ both_places 0 n s ∙ places_step 0 n s (omega arith) b in
    omega (arith, head-eq_of_cons-eq e)

-- ---- one bit ----

pub single_power : (n s : ℕ) → 1 ≤ s → s < 2 ^ n → bit_and s (s - 1) ≡ 0 → s ≡ 2 ^ count_trailing_zeros n s
unfolding count_trailing_zeros
single_power zero s a b z = absurd (omega arith)
single_power (suc n) s a b z =
    elim (ℕ_discrete (s % 2) 0) [
      | yes e ↦ (let h : (s - 1) / 2 ≡ s / 2 - 1 = omega arith in
          let k : bit_and (s / 2) (s / 2 - 1) ≡ 0 = (let w = and_step s (s - 1) in omega (arith, rw (h, e) at w)) in
          let ih : s / 2 ≡ 2 ^ count_trailing_zeros n (s / 2) = single_power n (s / 2) (omega arith) (omega (arith, two-pow-succ n)) k in
          rw e (omega (arith, ih, two-pow-succ (count_trailing_zeros n (s / 2)))))
      | no f ↦ (let e : s % 2 ≡ 1 = omega (arith, f) in
          let h : (s - 1) / 2 ≡ s / 2 = omega arith in
          let k : s / 2 * 2 ≤ 0 = (let w = and_step s (s - 1) in omega (arith, rw (h, and_self (s / 2)) at w, z)) in
          rw e (omega arith))
    ]

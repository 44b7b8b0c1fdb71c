-- Binary digits as Boolean tests: operations on words that are operations on digits, and the number whose digits a test gives.
-- Assumes nothing.
use Rattle.std.specs.Prelude.{Bool, true, false, not, ◌&&◌, ◌||◌, cond, ◌≡◌, refl, ℕ, zero, suc, ◌+◌, ◌*◌, ◌/◌, ◌%◌, ◌^◌, ◌<◌, min, max, eqb}
use Rattle.std.proofs.Common.{sym, ◌∙◌, ap, arith, pow-suc, eqb-true}
use Rattle.std.proofs.Math.Decide.{ℕ_discrete}
use Rattle.std.specs.Int.Bits.{bit_and, bit_or, bit_xor, differ}
use Rattle.std.proofs.lemmas.Nat.{xor_lt, and_le_l}
use Rattle.std.proofs.lemmas.Bool.{eqb-false}
use Rattle.laws.specs.Booleans.{by_cases}
use Rattle.bits.specs.Bit.{bit, bit-lt, bit-zero, bit-suc, bit_of_zero, or_bit, and_bit, xor_bit, bit-pow_same, bit-pow_other}

-- is digit i of x set
abbrev pub digit : ℕ → ℕ → Bool
digit x i = eqb (bit x i) 1

-- an operation on words that is one on digits
abbrev pub Digitwise : (ℕ → ℕ → ℕ) → (Bool → Bool → Bool) → Type 0
Digitwise op f = (x y i : ℕ) → digit (op x y) i ≡ f (digit x i) (digit y i)

zero_or_one : (x : ℕ) → x < 2 → (P : ℕ → Type 0) → P 0 → P 1 → P x
zero_or_one x h P p q = elim (ℕ_discrete x 0) [ yes e ↦ rw e p | no f ↦ (let e : x ≡ 1 = omega (arith, f) in rw e q) ]

-- two digits, each 0 or 1
both : (x y i : ℕ) (P : ℕ → ℕ → Type 0) → P 0 0 → P 0 1 → P 1 0 → P 1 1 → P (bit x i) (bit y i)
both x y i P p q r s =
    zero_or_one (bit x i) (bit-lt x i) (λ u. P u (bit y i))
    (zero_or_one (bit y i) (bit-lt y i) (λ v. P 0 v) p q)
    (zero_or_one (bit y i) (bit-lt y i) (λ v. P 1 v) r s)

pub or_digits : Digitwise bit_or (λ x y. x || y)
or_digits x y i = rw (or_bit x y i) (both x y i (λ u v. eqb (max u v) 1 ≡ (eqb u 1 || eqb v 1)) refl refl refl refl)

pub and_digits : Digitwise bit_and (λ x y. x && y)
and_digits x y i = rw (and_bit x y i) (both x y i (λ u v. eqb (min u v) 1 ≡ (eqb u 1 && eqb v 1)) refl refl refl refl)

pub xor_digits : Digitwise bit_xor (λ x y. cond x (not y) y)
xor_digits x y i =
    rw (xor_bit x y i) (both x y i (λ u v. eqb (differ u v) 1 ≡ cond (eqb u 1) (not (eqb v 1)) (eqb v 1)) refl refl refl refl)

-- x without the digits of y
abbrev pub bit_diff : ℕ → ℕ → ℕ
bit_diff x y = bit_xor x (bit_and x y)

pub diff_digits : Digitwise bit_diff (λ x y. x && not y)
diff_digits x y i =
    rw (xor_bit x (bit_and x y) i, and_bit x y i)
    (both x y i (λ u v. eqb (differ u (min u v)) 1 ≡ (eqb u 1 && not (eqb v 1))) refl refl refl refl)

-- the digits of a power of two
pub pow_digits : (i j : ℕ) → digit (2 ^ i) j ≡ eqb j i
pow_digits i j =
    by_cases (eqb j i)
    (λ e. let q : j ≡ i = eqb-true j i e in rw e (rw (q, bit-pow_same i)))
    (λ e. rw e (rw (bit-pow_other i j (λ q. eqb-false j i e (sym q)))))

pub zero_digits : (i : ℕ) → digit 0 i ≡ false
zero_digits i = rw (bit_of_zero i)

-- the number whose digit i is set where the test passes, for each i below n
unfoldable pub of_digits : ℕ → (ℕ → Bool) → ℕ
of_digits zero p = 0
of_digits (suc n) p = of_digits n (λ i. p (suc i)) * 2 + cond (p 0) 1 0

one_or_none : (b : Bool) → (cond b 1 0 < 2) × (eqb (cond b 1 0) 1 ≡ b)
one_or_none true = (omega arith, refl)
one_or_none false = (omega arith, refl)

pub digit_of : (n : ℕ) (p : ℕ → Bool) (i : ℕ) → i < n → digit (of_digits n p) i ≡ p i
unfolding of_digits
digit_of zero p i h = absurd (omega arith)
digit_of (suc n) p zero h =
    let e : (of_digits n (λ i. p (suc i)) * 2 + cond (p 0) 1 0) % 2 ≡ cond (p 0) 1 0 = omega (arith, (one_or_none (p 0)).0) in
    rw (bit-zero, e) (one_or_none (p 0)).1
digit_of (suc n) p (suc i) h =
    let e : (of_digits n (λ i. p (suc i)) * 2 + cond (p 0) 1 0) / 2 ≡ of_digits n (λ i. p (suc i)) = omega (arith, (one_or_none (p 0)).0) in
    rw (bit-suc, e) (digit_of n (λ i. p (suc i)) i (omega arith))

-- a number of n digits is given by them
pub of_digits_lem : (n : ℕ) (p : ℕ → Bool) (x : ℕ) → x < 2 ^ n → ((i : ℕ) → i < n → digit x i ≡ p i) → x ≡ of_digits n p
unfolding of_digits
of_digits_lem zero p x b h = omega arith
of_digits_lem (suc n) p x b h =
    let ih : x / 2 ≡ of_digits n (λ i. p (suc i)) =
    of_digits_lem n (λ i. p (suc i)) (x / 2) (omega (arith, pow-suc 2 n)) (λ i q. ap (λ (u : ℕ). eqb u 1) (sym (bit-suc x i)) ∙ h (suc i) (omega arith)) in
    let e : x % 2 ≡ cond (p 0) 1 0 = low_digit (p 0) (x % 2) (omega arith) (ap (λ (u : ℕ). eqb u 1) (sym (bit-zero x)) ∙ h 0 (omega arith)) in
    omega (arith, ih, e)
  where
    low_digit : (b : Bool) (u : ℕ) → u < 2 → eqb u 1 ≡ b → u ≡ cond b 1 0
    low_digit true u h e = eqb-true u 1 e
    low_digit false u h e = let q : u ≡ 1 → ⊥ = eqb-false u 1 e in omega (arith, q)

-- tests that agree below n give the same number
pub of_ext : (n : ℕ) (p q : ℕ → Bool) → ((i : ℕ) → i < n → p i ≡ q i) → of_digits n p ≡ of_digits n q
unfolding of_digits
of_ext zero p q h = refl
of_ext (suc n) p q h =
    rw (h 0 (omega arith), of_ext n (λ i. p (suc i)) (λ i. q (suc i)) (λ i b. h (suc i) (omega arith)))

pub diff_lt : (k x y : ℕ) → x < 2 ^ k → bit_diff x y < 2 ^ k
diff_lt k x y h = xor_lt k x (bit_and x y) h (omega (arith, and_le_l x y))

-- Decimal numbers: their digits one by one, how many there are, and that they give the number back. Assumes nothing.
use Rattle.std.specs.Prelude.{◌≡◌, refl, List, [], ◌∷◌, ◌++◌, ℕ, zero, suc, ◌+◌, ◌*◌, ◌-◌, ◌/◌, ◌%◌, ◌<◌, ◌≤◌, ◌^◌, length}
use Rattle.std.proofs.Common.{sym, ap, ◌∙◌, pow-suc, arith, add-one, length-append, le-ltb, lt-ltb}
use Rattle.std.proofs.Math.Decide.{dec_le}
use Rattle.spec.specs.Text.{last_digits, decimal}
use Rattle.spec.specs.TextClaims.{value_from, ReadsBack, OwnDigits}

-- ---- one digit, or one more ----

last_small : (n x : ℕ) → x < 10 → last_digits (suc n) x ≡ (48 + x) ∷ []
unfolding last_digits
last_small n x h = rw (lt-ltb x 10 h)

last_more : (n x : ℕ) → 10 ≤ x → last_digits (suc n) x ≡ last_digits n (x / 10) ++ ((48 + x % 10) ∷ [])
unfolding last_digits
last_more n x h = rw (le-ltb x 10 h)

-- no digit is cut off
last_enough : (n m x : ℕ) → x < n → x < m → last_digits n x ≡ last_digits m x
last_enough zero m x h i = absurd (omega arith)
last_enough (suc n) zero x h i = absurd (omega arith)
last_enough (suc n) (suc m) x h i =
    elim (dec_le 10 x) [
      | yes q ↦ last_more n x q ∙ ap (λ (l : List ℕ). l ++ ((48 + x % 10) ∷ [])) (last_enough n m (x / 10) (omega arith) (omega arith)) ∙ sym (last_more m x q)
      | no q ↦ last_small n x (omega arith) ∙ sym (last_small m x (omega arith))
    ]

pub decimal_small : (x : ℕ) → x < 10 → decimal x ≡ (48 + x) ∷ []
unfolding decimal
decimal_small x h = ap (λ (n : ℕ). last_digits n x) (add-one x) ∙ last_small x x h

pub decimal_more : (x : ℕ) → 10 ≤ x → decimal x ≡ decimal (x / 10) ++ ((48 + x % 10) ∷ [])
unfolding decimal
decimal_more x h =
    ap (λ (n : ℕ). last_digits n x) (add-one x)
    ∙ last_more x x h
    ∙ ap (λ (l : List ℕ). l ++ ((48 + x % 10) ∷ [])) (last_enough x (x / 10 + 1) (x / 10) (omega arith) (omega arith))

-- ---- how many digits ----

pub decimal_length : (k x : ℕ) → x < 10 ^ suc k → length (decimal x) ≤ suc k
decimal_length zero x h = omega (arith, pow-suc 10 0, ap length (decimal_small x (omega (arith, pow-suc 10 0))))
decimal_length (suc k) x h =
    elim (dec_le 10 x) [
      | yes q ↦
          omega (
            arith,
            ap length (decimal_more x q),
            length-append (decimal (x / 10)) ((48 + x % 10) ∷ []),
            decimal_length k (x / 10) (omega (arith, pow-suc 10 (suc k))),
          )
      | no q ↦ omega (arith, ap length (decimal_small x (omega arith)))
    ]

-- ---- read back ----

value_append : (a : ℕ) (k l : List ℕ) → value_from a (k ++ l) ≡ value_from (value_from a k) l
value_append a [] l = refl
value_append a (b ∷ k) l = value_append (a * 10 + (b - 48)) k l

last_value : (n x : ℕ) → x < n → value_from 0 (last_digits n x) ≡ x
last_value zero x h = absurd (omega arith)
last_value (suc n) x h =
    elim (dec_le 10 x) [
      | yes q ↦
          ap (value_from 0) (last_more n x q)
          ∙ value_append 0 (last_digits n (x / 10)) ((48 + x % 10) ∷ [])
          ∙ (let e : value_from 0 (last_digits n (x / 10)) ≡ x / 10 = last_value n (x / 10) (omega arith) in omega arith)
      | no q ↦ ap (value_from 0) (last_small n x (omega arith)) ∙ (omega arith)
    ]

pub reads_back : ReadsBack
unfolding decimal
reads_back x = last_value (x + 1) x (omega arith)

pub own_digits : OwnDigits
own_digits x y e = sym (reads_back x) ∙ ap (value_from 0) e ∙ reads_back y

-- A number's bytes put one after another. Assumes nothing.
use Rattle.std.specs.Prelude.{◌≡◌, refl, List, [], ◌∷◌, ◌++◌, ℕ, ◌+◌, ◌<◌, ◌≤◌, ◌^◌, length}
use Rattle.std.proofs.Common.{sym, ap, ◌∙◌, append-nil, append_assoc, arith, le-ltb, lt-ltb}
use Rattle.std.specs.Fmt.{decimal as std_decimal}
use Rattle.std.proofs.lemmas.Fmt.{AppendsLastDigit, decimal_from_appends, length-decimal-le_succ}
use Rattle.spec.specs.Text.{decimal, last_digits, spaced, line_of}
use Rattle.laws.specs.TextLaws.{decimal_length}
use Rattle.steplines.specs.declared.digits.Text.{Text}
use Rattle.steplines.specs.Puts.{Puts, puts_both, puts_as}

-- a number below 2^64 has at most 20 digits
pub most_digits : (x : ℕ) → x < 2 ^ 64 → length (decimal x) ≤ 20
most_digits x h = decimal_length 19 x (omega arith)

appends : AppendsLastDigit last_digits
unfolding last_digits
appends =
    record {
      one = λ k n h. rw (lt-ltb n 10 h);
      more = λ k n h. rw (le-ltb n 10 h);
    }

-- the library's digits are the definition's
pub decimal_same : (x : ℕ) → x < 2 ^ 64 → std_decimal x ≡ decimal x
unfolding decimal
decimal_same x h = sym (decimal_from_appends last_digits appends (x + 1) x h (length-decimal-le_succ x h))

-- one number after a space
pub spaced_one : (x : ℕ) → spaced (x ∷ []) ≡ 32 ∷ decimal x
unfolding spaced
spaced_one x = ap (λ (l : List ℕ). 32 ∷ l) (append-nil (decimal x))

-- and then others
pub spaced-append : (k l : List ℕ) → spaced (k ++ l) ≡ spaced k ++ spaced l
unfolding spaced
spaced-append [] l = refl
spaced-append (x ∷ k) l = ap (λ (r : List ℕ). 32 ∷ r) (ap (λ (r : List ℕ). decimal x ++ r) (spaced-append k l) ∙ sym (append_assoc (decimal x) (spaced k) (spaced l)))

-- a space, then the number
pub put_spaced : {s t u : Text} (x : ℕ) → Puts s (32 ∷ []) t → Puts t (decimal x) u → Puts s (spaced (x ∷ [])) u
put_spaced x p q = puts_as (sym (spaced_one x)) (puts_both p q)

-- a line of a word
pub put_bare : {s t u : Text} {w : List ℕ} → Puts s w t → Puts t (10 ∷ []) u → Puts s (line_of w []) u
unfolding spaced
put_bare p q = puts_both p q

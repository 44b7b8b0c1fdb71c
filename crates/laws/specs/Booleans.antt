-- Laws of Booleans and of tests of numbers, beside those of the kit's `Rattle.std.proofs.lemmas.Bool` and `borrow.Author.Tests`. Assumes nothing.
use Rattle.std.specs.Prelude.{◌≡◌, refl, Bool, true, false, not, ◌&&◌, ◌||◌, cond, ℕ, ◌≤◌, ◌+◌, eqb, ltb}
use Rattle.std.proofs.Common.{sym, ap, ◌∙◌, true≢false, arith, eqb-true, eq-eqb, ne_eqb, lt-ltb, le-ltb, ltb-true, ltb-false}
use Rattle.std.proofs.Math.Bool.{or_assoc, or_comm}
use Rattle.std.proofs.lemmas.Bool.{eqb-false}

-- cases of a test, with the equation
pub by_cases {ℓ} : {P : Type ℓ} (b : Bool) → (b ≡ true → P) → (b ≡ false → P) → P
by_cases true f g = f refl
by_cases false f g = g refl

pub clash {ℓ} : {P : Type ℓ} {b : Bool} → b ≡ true → b ≡ false → P
clash e f = absurd (true≢false (sym e ∙ f))

-- two Booleans of which each implies the other
pub bool_ext : (a b : Bool) → (a ≡ true → b ≡ true) → (b ≡ true → a ≡ true) → a ≡ b
bool_ext true b f g = sym (f refl)
bool_ext false true f g = g refl
bool_ext false false f g = refl

pub not_down : (a b : Bool) → (a ≡ true → b ≡ true) → not b ≡ true → not a ≡ true
not_down true b f h = clash h (ap not (f refl))
not_down false b f h = refl

-- ---- or ----

pub or_introl : (a b : Bool) → a ≡ true → (a || b) ≡ true
or_introl true b e = refl
or_introl false b e = cc

pub or_intror : (a b : Bool) → b ≡ true → (a || b) ≡ true
or_intror true b e = refl
or_intror false b e = e

pub or_cases {ℓ} : {P : Type ℓ} (a b : Bool) → (a || b) ≡ true → (a ≡ true → P) → (b ≡ true → P) → P
or_cases true b e f g = f refl
or_cases false b e f g = g e

pub or_none : (a b : Bool) → (a || b) ≡ false → (a ≡ false) × (b ≡ false)
or_none true b e = clash refl e
or_none false b e = (refl, e)

pub or_swap : (a b c : Bool) → (a || (b || c)) ≡ (b || (a || c))
or_swap true true c = refl
or_swap true false c = refl
or_swap false b c = refl

pub or_turn : (a b c : Bool) → (a || (b || c)) ≡ (c || (a || b))
or_turn a b c = sym (or_assoc a b c) ∙ or_comm (a || b) c

pub or_mid : (a b c d : Bool) → (a || b || (c || d)) ≡ (a || c || (b || d))
or_mid true b c d = refl
or_mid false b c d = or_swap b c d

pub or_absorb : (a b : Bool) → (a || (b && a)) ≡ a
or_absorb true b = refl
or_absorb false true = refl
or_absorb false false = refl

-- ---- and ----

pub and_left : (a b : Bool) → (a && b) ≡ true → a ≡ true
and_left true b h = refl
and_left false b h = h

pub and_right : (a b : Bool) → (a && b) ≡ true → b ≡ true
and_right true b h = h
and_right false b h = clash h refl

pub and_both : (a b : Bool) → a ≡ true → b ≡ true → (a && b) ≡ true
and_both a b e f = rw (e, f)

pub and_apart : (a b : Bool) → (a ≡ true → b ≡ false) → (a && b) ≡ false
and_apart true b h = h refl
and_apart false b h = refl

-- ---- numbers ----

pub eqb_self : (j : ℕ) → eqb j j ≡ true
eqb_self j = eq-eqb j j refl

pub eqb_sym : (a b : ℕ) → eqb a b ≡ eqb b a
eqb_sym a b =
    by_cases (eqb a b)
    (λ e. e ∙ sym (eq-eqb b a (sym (eqb-true a b e))))
    (λ e. e ∙ sym (ne_eqb b a (λ q. eqb-false a b e (sym q))))

pub cond-le : (b : Bool) (n : ℕ) → cond b 0 n ≤ n
cond-le true n = omega arith
cond-le false n = omega arith

pub cond_most : (b : Bool) (n : ℕ) → cond b n 0 ≤ n
cond_most true n = omega arith
cond_most false n = omega arith

-- one number more under the limit changes no other
pub ltb_next : (v k : ℕ) → (v ≡ k → ⊥) → ltb v k ≡ ltb v (k + 1)
ltb_next v k f =
    by_cases (ltb v k)
    (λ q. q ∙ sym (lt-ltb v (k + 1) (omega (arith, ltb-true v k q))))
    (λ q. q ∙ sym (le-ltb v (k + 1) (omega (arith, ltb-false v k q, f))))

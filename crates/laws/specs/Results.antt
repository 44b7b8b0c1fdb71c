-- Laws of answers and refusals. Assumes nothing.
use Rattle.std.specs.Prelude.{◌≡◌, refl, false, List, [], ◌∷◌, ℕ, Result, Err, Ok}
use Rattle.std.proofs.Common.{sym, ap, arith}
use Rattle.spec.specs.Refusal.{Check, and_then, checked}
use Rattle.spec.specs.declared.Refusal.{Refusal}
use Rattle.spec.specs.Members.{All}
use Rattle.laws.specs.Booleans.{by_cases}

-- a refusal is no answer, and the same result has the same answer
pub not_done {ℓ} : {A : Type 0} {P : Type ℓ} (k : Refusal) (x : A) → ◌≡◌ {A = Result A Refusal} (Err k) (Ok x) → P
not_done k x e = absurd (let w : ◌≡◌ {A = ℕ} 0 1 = cc in omega arith)

pub done_same : {A : Type 0} (x y : A) → ◌≡◌ {A = Result A Refusal} (Ok x) (Ok y) → x ≡ y
done_same x y e = cc

pub refused_same : {A : Type 0} (r s : Refusal) → ◌≡◌ {A = Result A Refusal} (Err r) (Err s) → r ≡ s
refused_same r s e = cc

-- what an answer comes from
pub and_then_lem {ℓ} : {A B : Type 0} {P : Type ℓ} (r : Result A Refusal) (f : A → Result B Refusal) (y : B) → and_then r f ≡ Ok y
    → ((x : A) → r ≡ Ok x → f x ≡ Ok y → P) → P
and_then_lem (Err k) f y e g = not_done k y e
and_then_lem (Ok x) f y e g = g x refl e

pub then_same : {A B : Type 0} (r : Result A Refusal) (f g : A → Result B Refusal) → ((x : A) → f x ≡ g x) → and_then r f ≡ and_then r g
then_same (Err k) f g h = refl
then_same (Ok x) f g h = h x

-- an answer is no refusal, and what a refusal comes from
pub not_refused : {A : Type 0} {P : Type 0} (x : A) (k : Refusal) → ◌≡◌ {A = Result A Refusal} (Ok x) (Err k) → P
not_refused x k e = not_done k x (sym e)

pub then_refused : {A B : Type 0} {P : Type 0} (r : Result A Refusal) (f : A → Result B Refusal) (k : Refusal) → and_then r f ≡ Err k
    → (r ≡ Err k → P) → ((x : A) → r ≡ Ok x → f x ≡ Err k → P) → P
then_refused (Err j) f k e g h = g (ap Err (refused_same j k e))
then_refused (Ok x) f k e g h = h x refl e

-- an answer after checks: no condition holds
pub checked_done : {A : Type 0} (cs : List Check) (r : Result A Refusal) (y : A) → checked cs r ≡ Ok y → All (λ c. c.holds ≡ false) cs × (r ≡ Ok y)
checked_done [] r y e = (tt, e)
checked_done (c ∷ cs) r y e =
    by_cases c.holds
    (λ h. not_done c.gives y (rw h at e))
    (λ h. let (f, g) = checked_done cs r y (rw h at e) in ((h, f), g))

-- and where none holds, the answer is given
pub checked_none : {A : Type 0} (cs : List Check) (r : Result A Refusal) → All (λ c. c.holds ≡ false) cs → checked cs r ≡ r
checked_none [] r h = refl
checked_none (c ∷ cs) r h = rw h.0 (checked_none cs r h.1)

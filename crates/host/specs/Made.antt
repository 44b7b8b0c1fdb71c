-- An answer that is made of a call's: of a refusal the same, of what was planned some numbers. What it came from, with the number that is answered
-- and what is made of the call beside. Assumes nothing.
use Rattle.std.specs.Prelude.{◌≡◌, refl, ℕ, Result, Err, Ok}
use Rattle.std.proofs.Common.{sym, ap, ◌∙◌}
use mathlib.Core.List.{List}
use Rattle.spec.specs.declared.Refusal.{Refusal}
use Rattle.spec.specs.Refusal.{number_of, code_of}
use Rattle.spec.specs.FileClaims.{refusal_in}
use Rattle.laws.specs.Results.{not_done, done_same, refused_same}

module _ {A B : Type 0} (made : Result A Refusal → Result B Refusal) (numbers : A → B) (of_err : (r : Refusal) → made (Err r) ≡ Err r)
    (of_ok : (a : A) → made (Ok a) ≡ Ok (numbers a)) where
  pub refused_from : (x : Result A Refusal) {r : Refusal} → Err r ≡ made x → x ≡ Err r
  refused_from (Err k) {r} e = sym (ap Err (refused_same {A = B} r k (e ∙ of_err k)))
  refused_from (Ok a) {r} e = not_done r (numbers a) (e ∙ of_ok a)

  pub done_from : (x : Result A Refusal) {b : B} → Ok b ≡ made x → (a : A) × (x ≡ Ok a) × (b ≡ numbers a)
  done_from (Err k) {b} e = not_done k b (sym (e ∙ of_err k))
  done_from (Ok a) {b} e = (a, refl, done_same b (numbers a) (e ∙ of_ok a))

  -- with what is made of the call besides
  module _ (after : Result A Refusal → List ℕ) where
    pub made_refused : (x : Result A Refusal) {r : Refusal} → Err r ≡ made x → (number_of r ≡ code_of (refusal_in x)) × (after (Err r) ≡ after x)
    made_refused x {r} e = let z = refused_from x e in (sym (ap (λ (c : Result A Refusal). code_of (refusal_in c)) z), sym (ap after z))

    pub made_done : (x : Result A Refusal) {b : B} → Ok b ≡ made x → (a : A) × (b ≡ numbers a) × (0 ≡ code_of (refusal_in x)) × (after (Ok a) ≡ after x)
    made_done x {b} e = let (a, z, q) = done_from x e in (a, q, sym (ap (λ (c : Result A Refusal). code_of (refusal_in c)) z), sym (ap after z))

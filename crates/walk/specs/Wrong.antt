-- The condition of refusal 8 by the length of the flat list. Assumes nothing.
use Rattle.std.specs.Prelude.{◌≡◌, refl, Bool, true, false, not, List, [], ◌∷◌, ℕ, zero, suc, ◌-◌, ◌*◌, ◌%◌, ◌≤◌, ◌<◌, eqb, length}
use Rattle.std.proofs.Common.{sym, ◌∙◌, ap, arith, ne_eqb}
use Rattle.std.proofs.Math.Bool.{not-not}
use Rattle.std.proofs.Math.Decide.{ℕ_discrete}
use Rattle.std.proofs.lemmas.Bool.{eqb-false}
use Rattle.spec.specs.Tree.{valid, pairs_of, tree_at}
use Rattle.spec.specs.Calls.{wrong_tree}
use Rattle.laws.specs.Booleans.{by_cases, or_intror}
use Rattle.laws.specs.Walks.{valid_tree}
use Rattle.laws.specs.FlatLaws.{pairs_length}

not_valid : (n : ℕ) (kids : List ℕ) → valid n (pairs_of kids) ≡ false → false ≡ not (wrong_tree n kids)
not_valid n kids e = sym (ap not (or_intror (eqb (length kids % 2) 1) (not (valid n (pairs_of kids))) (ap not e)))

some_not : (m : ℕ) → eqb (suc m) 0 ≡ false
some_not m = ne_eqb (suc m) 0 (λ q. omega arith)

-- at most one leaf: no node
pub few : (n : ℕ) (kids : List ℕ) → n < 2 → eqb (length kids) 0 ≡ not (wrong_tree n kids)
unfolding valid pairs_of tree_at
few zero [] h = refl
few (suc zero) [] h = refl
few zero (x ∷ []) h = refl
few (suc zero) (x ∷ []) h = refl
few zero (x ∷ y ∷ l) h = some_not (suc (length l)) ∙ not_valid zero (x ∷ y ∷ l) (some_not (length (pairs_of l)))
few (suc zero) (x ∷ y ∷ l) h = some_not (suc (length l)) ∙ not_valid (suc zero) (x ∷ y ∷ l) (rw (some_not (length (pairs_of l))))
few (suc (suc n)) kids h = absurd (omega arith)

-- more leaves, and two places a node
pub other_length : (n : ℕ) (kids : List ℕ) → 2 ≤ n → (length kids ≡ n * 2 - 2 → ⊥) → false ≡ not (wrong_tree n kids)
other_length n kids h g =
    by_cases (eqb (length kids % 2) 1)
    (λ e. rw e)
    (λ e. not_valid n kids (by_cases (valid n (pairs_of kids))
    (λ f.
    let (t, w, ok) = valid_tree n (pairs_of kids) (omega arith) f in
    absurd (g (omega (arith, ok.inner, pairs_length kids, eqb-false (length kids % 2) 1 e))))
    (λ f. f)))

pub right_length : (n : ℕ) (kids : List ℕ) → 2 ≤ n → length kids ≡ n * 2 - 2 → valid n (pairs_of kids) ≡ not (wrong_tree n kids)
right_length n kids h e = rw (ne_eqb (length kids % 2) 1 (λ q. omega arith)) (sym (not-not (valid n (pairs_of kids))))

-- and the other way round: what is not wrong is valid, and has the right length
true_not : {P : Type 0} → ◌≡◌ {A = Bool} false true → P
true_not q = absurd (let z : ◌≡◌ {A = ℕ} 0 1 = cc in omega arith)

pub not_wrong : (n : ℕ) (kids : List ℕ) → wrong_tree n kids ≡ false → valid n (pairs_of kids) ≡ true
not_wrong n kids e = by_cases (valid n (pairs_of kids)) (λ f. f) (λ f. true_not (not_valid n kids f ∙ ap not e))

pub not_wrong_length : (n : ℕ) (kids : List ℕ) → 2 ≤ n → wrong_tree n kids ≡ false → length kids ≡ n * 2 - 2
not_wrong_length n kids h e =
    elim (ℕ_discrete (length kids) (n * 2 - 2)) [ yes q ↦ q | no q ↦ true_not (other_length n kids h q ∙ ap not e) ]

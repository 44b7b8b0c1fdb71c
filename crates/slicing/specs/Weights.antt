-- The weights of the indices that may be sliced: an output's is made 0, one output after the other. Assumes nothing.
use Rattle.std.specs.Prelude.{Bool, cond, ◌||◌, ◌≡◌, refl, List, [], ◌∷◌, ℕ, ◌+◌, eqb, length, get_or, set}
use Rattle.std.proofs.Math.Bool.{or-false}
use Rattle.std.proofs.Common.{sym, ◌∙◌, ap, ap₂, arith, length-set, get_or-set_same, get_or-set_other, eq-eqb, ne_eqb}
use Rattle.std.proofs.Math.Decide.{ℕ_discrete, dec_le}
use Rattle.std.proofs.Math.ListN.{get_or-eq_default}
use Rattle.spec.specs.Lists.{memb}
use Rattle.spec.specs.Layout.{firsts}
use Rattle.laws.specs.Booleans.{or_intror, cond-le}
use Rattle.laws.specs.ListLaws.{memb-append}
use Rattle.laws.specs.LayoutLaws.{firsts_none, firsts_more}
use Rattle.network.specs.Layouts.{firsts_all}
use Rattle.slots.specs.Weigh.{Light, open_weight, open_light}

-- the first k outputs are done, of a list that had f at its places
abbrev pub Cleared : (f : ℕ → ℕ) (outputs : List ℕ) → ℕ → List ℕ → Type 0
Cleared f outputs k now = (j : ℕ) → get_or now j 0 ≡ cond (memb j (firsts k outputs)) 0 (f j)

abbrev pub Unlisted : (old outputs : List ℕ) → ℕ → List ℕ → Type 0
Unlisted old outputs k now = (j : ℕ) → get_or now j 0 ≡ cond (memb j (firsts k outputs)) 0 (get_or old j 0)

pub cleared_none : (f : ℕ → ℕ) (outputs now : List ℕ) → ((j : ℕ) → get_or now j 0 ≡ f j) → Cleared f outputs 0 now
cleared_none f outputs now h j = h j ∙ sym (ap (λ (l : List ℕ). cond (memb j l) 0 (f j)) (firsts_none outputs))

pub unlisted_none : (old outputs : List ℕ) → Unlisted old outputs 0 old
unlisted_none old outputs = cleared_none (λ j. get_or old j 0) outputs old (λ j. refl)

put_zero : (l : List ℕ) (i : ℕ) → get_or (set l i 0) i 0 ≡ 0
put_zero l i =
    elim (dec_le (length l) i) [
      | yes q ↦ get_or-eq_default (set l i 0) 0 (simp length-set q)
      | no q ↦ get_or-set_same l i 0 0 (omega arith)
    ]

pub cleared_next : (f : ℕ → ℕ) (outputs now next : List ℕ) (k x : ℕ) → x ≡ get_or outputs k 0 → next ≡ set now x 0 → Cleared f outputs k now
    → Cleared f outputs (k + 1) next
cleared_next f outputs now next k x e g h j =
    let z : memb j (firsts (k + 1) outputs) ≡ (memb j (firsts k outputs) || eqb j x) =
    ap (memb j) (firsts_more k outputs) ∙ memb-append j (firsts k outputs) (get_or outputs k 0 ∷ [])
    ∙ ap (λ (b : Bool). memb j (firsts k outputs) || b) (or-false (eqb j (get_or outputs k 0)) ∙ ap (eqb j) (sym e)) in
    rw (g, z) (elim (ℕ_discrete j x) [
      | yes q ↦ ap (λ (i : ℕ). get_or (set now x 0) i 0) q ∙ put_zero now x
          ∙ sym (ap (λ (b : Bool). cond b 0 (f j)) (or_intror (memb j (firsts k outputs)) (eqb j x) (eq-eqb j x q)))
      | no q ↦ get_or-set_other now x j 0 0 q ∙ h j
          ∙ ap (λ (b : Bool). cond b 0 (f j)) (sym (ap (λ (b : Bool). memb j (firsts k outputs) || b) (ne_eqb j x q) ∙ or-false (memb j (firsts k outputs))))
    ])

pub unlisted_next : (old outputs now next : List ℕ) (k x : ℕ) → x ≡ get_or outputs k 0 → next ≡ set now x 0 → Unlisted old outputs k now
    → Unlisted old outputs (k + 1) next
unlisted_next old outputs now next k x e g h = cleared_next (λ j. get_or old j 0) outputs now next k x e g h

-- all outputs are done
pub cleared_all : (f : ℕ → ℕ) (outputs now : List ℕ) (k : ℕ) → k ≡ length outputs → Cleared f outputs k now
    → (j : ℕ) → get_or now j 0 ≡ cond (memb j outputs) 0 (f j)
cleared_all f outputs now k e h j =
    h j ∙ ap (λ (l : List ℕ). cond (memb j l) 0 (f j)) (ap (λ (i : ℕ). firsts i outputs) e ∙ firsts_all outputs)

-- what may be sliced weighs no more than 8 bits
pub unlisted_light : (weights flags outputs : List ℕ) (o : ℕ) (now : List ℕ) → Light weights
    → ((j : ℕ) → get_or now j 0 ≡ cond (memb j (firsts o outputs)) 0 (open_weight weights flags j)) → Light now
unlisted_light weights flags outputs o now h e j =
    rw (e j) (omega (arith, cond-le (memb j (firsts o outputs)) (open_weight weights flags j), open_light weights flags h j))

-- a network's lists are their own fronts
pub sliceable_fronts : (weights flags outputs now : List ℕ) → ((j : ℕ) → get_or now j 0 ≡ cond (memb j outputs) 0 (open_weight weights flags j))
    → (j : ℕ) → get_or now j 0 ≡ cond (memb j (firsts (length outputs) outputs)) 0 (open_weight (firsts (length weights) weights) flags j)
sliceable_fronts weights flags outputs now h j =
    h j ∙ ap₂ (λ (o w : List ℕ). cond (memb j o) 0 (open_weight w flags j)) (sym (firsts_all outputs)) (sym (firsts_all weights))

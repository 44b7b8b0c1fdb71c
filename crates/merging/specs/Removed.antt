-- The array as a flat list with one node more. Assumes nothing.
use Rattle.std.specs.Prelude.{◌≡◌, refl, List, [], ◌∷◌, ◌++◌, ℕ, ◌+◌, ◌*◌, length, set}
use Rattle.std.proofs.Common.{sym, ◌∙◌, ap, ap₂, arith, length-append}
use Rattle.spec.specs.Memory.{over}
use Rattle.spec.specs.Tree.{Tree, number, Pair, flat_of}
use Rattle.spec.specs.Greedy.{plus}
use Rattle.cells.specs.Cells.{over_snoc}

-- ---- one node more ----

flat_more : (a : List Pair) (p : Pair) → flat_of (a ++ (p ∷ [])) ≡ (flat_of a ++ (p.left ∷ [])) ++ (p.right ∷ [])
unfolding flat_of
flat_more [] p = refl
flat_more (q ∷ a) p = ap (λ (l : List ℕ). q.left ∷ q.right ∷ l) (flat_more a p)

pub flat_length : (a : List Pair) → length (flat_of a) ≡ length a * 2
unfolding flat_of
flat_length [] = refl
flat_length (p ∷ a) = omega (arith, flat_length a)

-- the children of a new node, put after those of the array
pub put_node : (kids₀ kids r : List ℕ) (a : List Pair) (t u : Tree) (c x y : ℕ) → kids ≡ over kids₀ (flat_of a) → c ≡ length a → x ≡ number t → y ≡ number u
    → r ≡ set (set kids (c * 2) x) (c * 2 + 1) y → r ≡ over kids₀ (flat_of (plus a t u))
put_node kids₀ kids r a t u c x y ek ec ex ey er =
    let n : c * 2 ≡ length (flat_of a) = omega (arith, ec, flat_length a) in
    let n' : c * 2 + 1 ≡ length (flat_of a ++ (number t ∷ [])) = omega (arith, n, length-append (flat_of a) (number t ∷ [])) in
    er
    ∙ ap₂ (λ (l : List ℕ) (v : ℕ). set (set l (c * 2) v) (c * 2 + 1) y) ek ex
    ∙ ap₂ (λ (i v : ℕ). set (set (over kids₀ (flat_of a)) i (number t)) (c * 2 + 1) v) n ey
    ∙ ap (λ (l : List ℕ). set l (c * 2 + 1) (number u)) (over_snoc kids₀ (flat_of a) (number t))
    ∙ ap (λ (i : ℕ). set (over kids₀ (flat_of a ++ (number t ∷ []))) i (number u)) n'
    ∙ over_snoc kids₀ (flat_of a ++ (number t ∷ [])) (number u)
    ∙ ap (over kids₀) (sym (flat_more a (record { left = number t; right = number u })))

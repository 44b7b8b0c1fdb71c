-- The passes over the slots, as the code does them: the leaves' own sets, then the unions in the order given. Assumes nothing.
use Rattle.std.specs.Prelude.{◌≡◌, refl, false, ◌||◌, List, [], ◌∷◌, ℕ, ◌+◌, ◌-◌, ◌*◌, ◌≤◌, ◌<◌, eqb, length, get_or, drop}
use Rattle.std.proofs.Common.{sym, ◌∙◌, ap, add-one, drop_of_length-le, drop-cons}
use Rattle.cells.specs.Loop.{turns, turns_none, turns_next, turns_keeps}
use Rattle.slots.specs.Slots.{held, with_set, with_set_length, with_set_then}
use Rattle.laws.specs.FlatLaws.{left_of, right_of}

-- slot base + i holds i alone, for i below n
unfoldable pub singles : ℕ → ℕ → List ℕ → ℕ → List ℕ
singles w base ws n = turns (λ i l. with_set l w (base + i) (λ j. eqb j i)) ws n

-- node v's slot is made the union of its children's
unfoldable pub joined : ℕ → ℕ → List ℕ → ℕ → List ℕ → ℕ → List ℕ
joined w base kids n ws v =
    with_set ws w (base + v) (λ j. held ws w (base + left_of kids n v) j || held ws w (base + right_of kids n v) j)

-- the same for each node of a list, the first one first
unfoldable pub ups : ℕ → ℕ → List ℕ → ℕ → List ℕ → List ℕ → List ℕ
ups w base kids n ws [] = ws
ups w base kids n ws (v ∷ vs) = ups w base kids n (joined w base kids n ws v) vs

-- ---- the loops' turns ----

pub single_next : (w base : ℕ) (ws : List ℕ) (i : ℕ) (l l₁ l₂ : List ℕ) → l ≡ singles w base ws i → l₁ ≡ with_set l w (base + i) (λ j. false)
    → l₂ ≡ with_set l₁ w (base + i) (λ j. held l₁ w (base + i) j || eqb j i) → l₂ ≡ singles w base ws (i + 1)
unfolding singles
single_next w base ws i l l₁ l₂ e p q =
    turns_next (λ i l. with_set l w (base + i) (λ j. eqb j i)) ws i e
    (q ∙ ap (λ (z : List ℕ). with_set z w (base + i) (λ j. held z w (base + i) j || eqb j i)) p
    ∙ with_set_then l w (base + i) (λ j. false) (λ j x. x || eqb j i))

-- what is left to do, from a place of the order on
pub ups_next : (w base : ℕ) (kids : List ℕ) (n : ℕ) (ws order : List ℕ) (k : ℕ) (l r : List ℕ) → k < length order
    → ups w base kids n l (drop k order) ≡ ups w base kids n ws order → r ≡ joined w base kids n l (get_or order k 0)
    → ups w base kids n r (drop (k + 1) order) ≡ ups w base kids n ws order
unfolding ups
ups_next w base kids n ws order k l r h e q =
    ap (λ (z : List ℕ). ups w base kids n z (drop (k + 1) order)) q
    ∙ ap (λ (m : ℕ). ups w base kids n (joined w base kids n l (get_or order k 0)) (drop m order)) (add-one k)
    ∙ sym (ap (ups w base kids n l) (drop-cons order k 0 h)) ∙ e

pub ups_none : (w base : ℕ) (kids : List ℕ) (n : ℕ) (l order : List ℕ) (k : ℕ) → length order ≤ k → ups w base kids n l (drop k order) ≡ l
unfolding ups
ups_none w base kids n l order k h = ap (ups w base kids n l) (drop_of_length-le order h)

pub singles_none : (w base : ℕ) (ws : List ℕ) → ws ≡ singles w base ws 0
unfolding singles
singles_none w base ws = sym (turns_none (λ i l. with_set l w (base + i) (λ j. eqb j i)) ws)

pub singles_length : (w base : ℕ) (ws : List ℕ) (n : ℕ) → length (singles w base ws n) ≡ length ws
unfolding singles
singles_length w base ws n =
    turns_keeps (λ (l : List ℕ). length l ≡ length ws) (λ i l. with_set l w (base + i) (λ j. eqb j i)) ws n refl
    (λ k t h e. with_set_length t w (base + k) (λ j. eqb j k) ∙ e)

pub joined_length : (w base : ℕ) (kids : List ℕ) (n : ℕ) (ws : List ℕ) (v : ℕ) → length (joined w base kids n ws v) ≡ length ws
unfolding joined
joined_length w base kids n ws v = with_set_length ws w (base + v) _

-- the union, as the code comes to it
pub joined_is : (w base : ℕ) (kids : List ℕ) (n : ℕ) (ws ws' : List ℕ) (v v' d l r : ℕ) → v' ≡ v → d ≡ v' - n → l ≡ get_or kids (d * 2) 0
    → r ≡ get_or kids (d * 2 + 1) 0 → ws' ≡ with_set ws w (base + v') (λ j. held ws w (base + l) j || held ws w (base + r) j)
    → ws' ≡ joined w base kids n ws v
unfolding joined
joined_is w base kids n ws ws' v v' d l r e f g h q =
    let el : l ≡ left_of kids n v = g ∙ ap (λ (i : ℕ). get_or kids (i * 2) 0) (f ∙ ap (λ (i : ℕ). i - n) e) in
    let er : r ≡ right_of kids n v = h ∙ ap (λ (i : ℕ). get_or kids (i * 2 + 1) 0) (f ∙ ap (λ (i : ℕ). i - n) e) in
    q ∙ (λ i. with_set ws w (base + e i) (λ j. held ws w (base + el i) j || held ws w (base + er i) j))

-- The steps as five numbers each, one after the other. Assumes nothing.
use Rattle.std.specs.Prelude.{◌≡◌, length, set}
use Rattle.std.proofs.Math.Path.{refl, ap}
use Rattle.std.proofs.Common.{sym, ◌∙◌, add-one}
use mathlib.Core.List.{List, [], ◌∷◌}
use Prim.Native.Nat.{ℕ, zero, suc, ◌+◌, ◌*◌, ◌<◌}
use native.Mathlib.Omega.{arith}
use Rattle.std.proofs.Math.ListN.{get_or}
use Rattle.std.proofs.lemmas.List.Edits.{sets}
use Rattle.spec.specs.Memory.{over, copied}
use Rattle.cells.specs.Cells.{copied_next, copied_all}

-- five stores, one after the other
pub five : (s : List ℕ) (at a b c d e : ℕ)
    → set (set (set (set (set s at a) (at + 1) b) (at + 2) c) (at + 3) d) (at + 4) e ≡ sets s at (a ∷ b ∷ c ∷ d ∷ e ∷ [])
five s at a b c d e =
    let e1 : at + 1 ≡ suc at = omega arith in
    let e2 : at + 2 ≡ suc (suc at) = omega arith in
    let e3 : at + 3 ≡ suc (suc (suc at)) = omega arith in
    let e4 : at + 4 ≡ suc (suc (suc (suc at))) = omega arith in
    rw (e1, e2, e3, e4)

module _ (L R : ℕ → ℕ) (works sizes : List ℕ) where
  -- node, left, right, work bits, size bits
  abbrev pub line : ℕ → List ℕ
  line v = v ∷ L v ∷ R v ∷ get_or works v 0 ∷ get_or sizes v 0 ∷ []

  unfoldable pub lines : List ℕ → List ℕ
  lines [] = []
  lines (v ∷ vs) = v ∷ L v ∷ R v ∷ get_or works v 0 ∷ get_or sizes v 0 ∷ lines vs

  pub lines_length : (l : List ℕ) → length (lines l) ≡ length l * 5
  unfolding lines
  lines_length [] = refl
  lines_length (v ∷ l) = omega (arith, lines_length l)

  -- number i of line k
  pub lines_at : (l : List ℕ) (k i : ℕ) → k < length l → i < 5 → get_or (lines l) (k * 5 + i) 0 ≡ get_or (line (get_or l k 0)) i 0
  unfolding lines
  lines_at [] k i h b = absurd (omega arith)
  lines_at (v ∷ l) zero i h b = front i b
    where
      front : (i : ℕ) → i < 5 → get_or (lines (v ∷ l)) (zero * 5 + i) 0 ≡ get_or (line v) i 0
      front zero c = refl
      front (suc zero) c = refl
      front (suc (suc zero)) c = refl
      front (suc (suc (suc zero))) c = refl
      front (suc (suc (suc (suc zero)))) c = refl
      front (suc (suc (suc (suc (suc i))))) c = absurd (omega arith)
  lines_at (v ∷ l) (suc k) i h b =
      let e : suc k * 5 + i ≡ suc (suc (suc (suc (suc (k * 5 + i))))) = omega arith in
      ap (λ (x : ℕ). get_or (lines (v ∷ l)) x 0) e ∙ lines_at l k i (omega arith) b

  module _ (order old : List ℕ) where
    -- the first k lines, at the front of a list
    abbrev pub lines_to : ℕ → List ℕ
    lines_to k = copied old (lines order) (k * 5)

    -- one number more
    put : (now : List ℕ) (k i at x : ℕ) → k < length order → i < 5 → at ≡ k * 5 + i → x ≡ get_or (line (get_or order k 0)) i 0
        → now ≡ copied old (lines order) at → set now at x ≡ copied old (lines order) (suc at)
    put now k i at x h b p e g =
        ap (set now at) (e ∙ sym (lines_at order k i h b) ∙ ap (λ (y : ℕ). get_or (lines order) y 0) (sym p))
        ∙ copied_next old (lines order) at 0 (omega (arith, lines_length order)) g
        ∙ ap (copied old (lines order)) (add-one at)

    -- one line more
    pub line_next : (now next : List ℕ) (k v l r work size : ℕ) → k < length order → now ≡ lines_to k → v ≡ get_or order k 0 → l ≡ L v → r ≡ R v
        → work ≡ get_or works v 0 → size ≡ get_or sizes v 0 → next ≡ sets now (k * 5) (v ∷ l ∷ r ∷ work ∷ size ∷ []) → next ≡ lines_to (k + 1)
    line_next now next k v l r work size h e ev el er ew es f =
        let q : suc (suc (suc (suc (suc (k * 5))))) ≡ (k + 1) * 5 = omega arith in
        f
        ∙ put _ k 4 _ size h (omega arith) (omega arith) (es ∙ ap (λ (x : ℕ). get_or sizes x 0) ev)
        (put _ k 3 _ work h (omega arith) (omega arith) (ew ∙ ap (λ (x : ℕ). get_or works x 0) ev)
        (put _ k 2 _ r h (omega arith) (omega arith) (er ∙ ap R ev)
        (put _ k 1 _ l h (omega arith) (omega arith) (el ∙ ap L ev)
        (put now k 0 (k * 5) v h (omega arith) (omega arith) ev e))))
        ∙ ap (copied old (lines order)) q

    pub lines_end : (now : List ℕ) (k : ℕ) → k ≡ length order → now ≡ lines_to k → now ≡ over old (lines order)
    lines_end now k e g =
        g ∙ ap (copied old (lines order)) (ap (λ (x : ℕ). x * 5) e ∙ sym (lines_length order)) ∙ copied_all old (lines order)

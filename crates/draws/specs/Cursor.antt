-- The words of a run by how many of the lent list were taken, or one more than there are once a draw was due past the end. Assumes nothing.
use Rattle.std.specs.Prelude.{◌≡◌, ℕ, ◌+◌, ◌<◌, ◌≤◌, Bool, true, false, cond, ltb, List, [], ◌∷◌, length, drop, nat_lt, slice_index, slice_index_or, refl}
use Rattle.std.proofs.Common.{sym, ap, ◌∙◌, arith, add-one, lt-ltb, le-ltb, ltb-true, ltb-false, drop_of_length-le, drop-cons}
use Rattle.std.proofs.Math.ListN.{get_or-eq_default}
use Rattle.spec.specs.Draws.{Words, Drawn, drawn, draw_from, draw}

abbrev pub words_at : List ℕ → ℕ → Words
words_at words at = record { left = drop at words; exhausted = nat_lt (length words) at }

-- the cursor after a draw
abbrev pub after_draw : List ℕ → ℕ → ℕ
after_draw words at = cond (nat_lt at (length words)) (at + 1) (length words + 1)

abbrev made : ℕ → List ℕ → Bool → Drawn ℕ
made w l s = drawn w (record { left = l; exhausted = s })

-- A DRAW BY THE CURSOR: the word there, or 0 past the end, and the words from the next cursor on.
pub draw_at : (words : List ℕ) (at : ℕ) → draw (words_at words at) ≡ drawn (slice_index words at) (words_at words (after_draw words at))
draw_at words at = go (nat_lt at (length words)) refl
  where
    go : (t : Bool) → nat_lt at (length words) ≡ t
        → draw_from (drop at words) (nat_lt (length words) at)
        ≡ made (slice_index words at) (drop (cond t (at + 1) (length words + 1)) words) (nat_lt (length words) (cond t (at + 1) (length words + 1)))
    go true e =
        let h : at < length words = ltb-true at (length words) e in
        let p : drop at words ≡ slice_index words at ∷ drop (at + 1) words = drop-cons words at 0 h ∙ ap (λ n. slice_index words at ∷ drop n words) (sym (add-one at)) in
        let q : ltb (length words) at ≡ ltb (length words) (at + 1) = le-ltb (length words) at (omega arith) ∙ sym (le-ltb (length words) (at + 1) (omega arith)) in
        ap (λ l. draw_from l (nat_lt (length words) at)) p ∙ ap (made (slice_index words at) (drop (at + 1) words)) q
    go false e =
        let h : length words ≤ at = ltb-false at (length words) e in
        let p : drop at words ≡ [] = drop_of_length-le words h in
        let q : drop (length words + 1) words ≡ [] = drop_of_length-le words {i = length words + 1} (omega arith) in
        let s : ltb (length words) (length words + 1) ≡ true = lt-ltb (length words) (length words + 1) (omega arith) in
        let w : slice_index_or words at 0 ≡ 0 = get_or-eq_default words 0 h in
        ap (λ l. draw_from l (nat_lt (length words) at)) p ∙ sym (ap (λ x. made x (drop (length words + 1) words) (nat_lt (length words) (length words + 1))) w ∙ ap (λ l. made 0 l (nat_lt (length words) (length words + 1))) q ∙ ap (made 0 []) s)

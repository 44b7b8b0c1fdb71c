-- A slot made of one of its list and one of another list, word by word. Assumes nothing.
use Rattle.std.specs.Prelude.{Bool, ◌≡◌, List, ℕ, ◌+◌, ◌*◌, ◌^◌, ◌<◌, get_or, set}
use Rattle.std.proofs.Common.{sym, ◌∙◌, ap, ap₂, arith}
use Rattle.bits.specs.Digits.{digit, Digitwise}
use Rattle.slots.specs.Slots.{held, written, held-digit, word_is, written_other, written_next, place_eq}

-- the set made of slot a and of slot b of the other list
abbrev pub mixed_with : (Bool → Bool → Bool) → List ℕ → List ℕ → ℕ → ℕ → ℕ → ℕ → Bool
mixed_with f ws other W a b j = f (held ws W a j) (held other W b j)

module _ (op : ℕ → ℕ → ℕ) (f : Bool → Bool → Bool) (d : Digitwise op f) (lt : (x y : ℕ) → x < 2 ^ 64 → y < 2 ^ 64 → op x y < 2 ^ 64)
    (ws other : List ℕ) (W a b c : ℕ) where
  abbrev p : ℕ → Bool
  p = mixed_with f ws other W a b

  -- a word of a slot is read before it is written
  unread : (k : ℕ) → k < W → get_or (written ws (c * W) p k) (a * W + k) 0 ≡ get_or ws (a * W + k) 0
  unread k h = written_other ws (c * W) p k (a * W + k) (λ n q e. absurd (omega (arith, place_eq a c W k n h (omega arith) e)))

  -- one word more
  pub mix_with_next : (k x y : ℕ) (l r : List ℕ) → k < W → l ≡ written ws (c * W) p k → x < 2 ^ 64 → y < 2 ^ 64
      → x ≡ get_or l (a * W + k) 0 → y ≡ get_or other (b * W + k) 0 → r ≡ set l (c * W + k) (op x y) → r ≡ written ws (c * W) p (k + 1)
  mix_with_next k x y l r h e bx by ex ey g =
      let zx : x ≡ get_or ws (a * W + k) 0 = ex ∙ rw e (unread k h) in
      written_next ws (c * W) p k l r (op x y) e
      (word_is p k (op x y) (lt x y bx by) (λ i q.
      d x y i ∙ ap₂ f (ap (λ (u : ℕ). digit u i) zx ∙ sym (held-digit ws W a k i q)) (ap (λ (u : ℕ). digit u i) ey ∙ sym (held-digit other W b k i q))))
      g

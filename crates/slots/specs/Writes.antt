-- What the operations on slots write: one index, the places of a list, and the union, the meet or the difference of two slots, each
-- as the set that slot then holds. Assumes nothing.
use Rattle.std.specs.Prelude.{Bool, false, ◌||◌, ◌≡◌, List, [], ◌∷◌, ℕ, zero, suc, ◌+◌, ◌*◌, ◌/◌, ◌%◌, ◌^◌, ◌≤◌, ◌<◌, eqb, length, get_or, set, drop}
use Rattle.std.proofs.Math.Bool.{or_assoc, or-false}
use Rattle.std.proofs.Common.{sym, ◌∙◌, ap, ap₂, arith, add-one, length-set, get_or-set_same, get_or-set_other, get_or-drop, eq-eqb, ne_eqb}
use Rattle.std.proofs.Math.Decide.{ℕ_discrete}
use Rattle.std.specs.Int.Bits.{bit_or}
use Rattle.std.proofs.lemmas.Nat.{or_lt}
use Rattle.std.proofs.Math.Pow.{pow-lt}
use Rattle.spec.specs.Lists.{memb}
use Rattle.spec.specs.Layout.{firsts}
use Rattle.bits.specs.Digits.{digit, Digitwise, or_digits, pow_digits, zero_digits}
use Rattle.laws.specs.ListLaws.{memb-append}
use Rattle.laws.specs.LayoutLaws.{firsts_none, firsts_more}
use Rattle.slots.specs.Slots.{
  held,
  word_of,
  written,
  with_set,
  Words,
  held-digit,
  word_is,
  written_other,
  written_next,
  with_set_is,
  with_set_ext,
  with_set_held,
  with_set_then,
  place_eq,
}

-- the empty set's words
pub word_none : (k : ℕ) → 0 ≡ word_of (λ j. false) k
word_none k = word_is (λ j. false) k 0 (omega arith) (λ i h. zero_digits i)

-- ---- one index ----

-- the same place of the same word
eqb_place : (k i t : ℕ) → t < 64 → k ≡ i / 64 → eqb t (i % 64) ≡ eqb (k * 64 + t) i
eqb_place k i t h e =
    elim (ℕ_discrete t (i % 64)) [
      | yes q ↦ eq-eqb t (i % 64) q ∙ sym (eq-eqb (k * 64 + t) i (omega arith))
      | no f ↦ ne_eqb t (i % 64) f ∙ sym (ne_eqb (k * 64 + t) i (λ q. f (omega arith)))
    ]

module _ (ws : List ℕ) (W s i : ℕ) where
  -- the set of slot s with index i
  abbrev pub and_one : ℕ → Bool
  and_one j = held ws W s j || eqb j i

  pub insert_is : Words ws → i / 64 < W
      → set ws (s * W + i / 64) (bit_or (get_or ws (s * W + i / 64) 0) (2 ^ (i % 64))) ≡ with_set ws W s and_one
  insert_is h b =
      with_set_is ws W s and_one _ (simp length-set) inside
      (λ j f. get_or-set_other ws (s * W + i / 64) j _ 0 (λ e. f (i / 64) (omega arith) e))
    where
      inside : (k : ℕ) → k < W → s * W + k < length ws
          → get_or (set ws (s * W + i / 64) (bit_or (get_or ws (s * W + i / 64) 0) (2 ^ (i % 64)))) (s * W + k) 0 ≡ word_of and_one k
      inside k c r =
          elim (ℕ_discrete k (i / 64)) [
            | yes e ↦ rw (← e) (get_or-set_same ws (s * W + k) _ 0 r
                ∙ word_is and_one k _ (or_lt 64 _ _ (h (s * W + k)) (pow-lt {j = 64} (omega arith))) (λ t q.
                or_digits (get_or ws (s * W + k) 0) (2 ^ (i % 64)) t
                ∙ ap₂ (λ (x y : Bool). x || y) (sym (held-digit ws W s k t q)) (pow_digits (i % 64) t ∙ eqb_place k i t q e)))
            | no f ↦ get_or-set_other ws (s * W + i / 64) (s * W + k) _ 0 (λ q. f (omega arith))
                ∙ word_is and_one k _ (h (s * W + k)) (λ t q.
                sym (or-false _) ∙ ap₂ (λ (x y : Bool). x || y) (sym (held-digit ws W s k t q)) (sym (ne_eqb (k * 64 + t) i (λ z. f (omega arith)))))
          ]

  -- an index too high for the slot
  pub insert_none : Words ws → W ≤ i / 64 → ws ≡ with_set ws W s and_one
  insert_none h b =
      with_set_held ws W s h
      ∙ with_set_ext ws W s (held ws W s) and_one (λ j q.
      sym (or-false (held ws W s j)) ∙ ap (λ (x : Bool). held ws W s j || x) (sym (ne_eqb j i (λ e. omega arith))))

-- ---- the places of a list ----

-- is j among the n places of a list from `base` on
abbrev pub among : List ℕ → ℕ → ℕ → ℕ → Bool
among l base zero j = false
among l base (suc n) j = among l base n j || eqb j (get_or l (base + n) 0)

-- is j among the indices of leaf i, of rows of 32 places
abbrev pub leaf_has : List ℕ → List ℕ → ℕ → ℕ → Bool
leaf_has counts legs i j = among legs (i * 32) (get_or counts i 0) j

pub memb-firsts : (l : List ℕ) (base n j : ℕ) → memb j (firsts n (drop base l)) ≡ among l base n j
memb-firsts l base zero j = ap (memb j) (firsts_none (drop base l))
memb-firsts l base (suc n) j =
    ap (λ (k : ℕ). memb j (firsts k (drop base l))) (sym (add-one n))
    ∙ ap (memb j) (firsts_more n (drop base l))
    ∙ memb-append j (firsts n (drop base l)) (get_or (drop base l) n 0 ∷ [])
    ∙ ap₂ (λ (x y : Bool). x || y) (memb-firsts l base n j) (or-false _ ∙ ap (eqb j) (get_or-drop base l n 0))

-- a slot that is emptied, and then given the places of a list
pub refilled : (ws l r : List ℕ) (W s : ℕ) (list : List ℕ) (base n : ℕ) → l ≡ with_set ws W s (λ j. false)
    → r ≡ with_set l W s (λ j. held l W s j || among list base n j) → r ≡ with_set ws W s (among list base n)
refilled ws l r W s list base n e f = f ∙ rw e (with_set_then ws W s (λ j. false) (λ j x. x || among list base n j))

module _ (ws : List ℕ) (W s : ℕ) (l : List ℕ) (base : ℕ) where
  -- the set of slot s with the n places of the list from `base` on
  abbrev pub and_all : ℕ → ℕ → Bool
  and_all n j = held ws W s j || among l base n j

  pub all_none : Words ws → ws ≡ with_set ws W s (and_all 0)
  all_none h = with_set_held ws W s h ∙ with_set_ext ws W s _ _ (λ j b. sym (or-false (held ws W s j)))

  pub all_next : (k i : ℕ) (g r : List ℕ) → g ≡ with_set ws W s (and_all k) → i ≡ get_or l (base + k) 0 → r ≡ with_set g W s (and_one g W s i)
      → r ≡ with_set ws W s (and_all (k + 1))
  all_next k i g r e f h =
      h ∙ rw (e, f, add-one k) (with_set_then ws W s (and_all k) (λ j x. x || eqb j (get_or l (base + k) 0))
      ∙ with_set_ext ws W s _ _ (λ j b. or_assoc (held ws W s j) (among l base k j) (eqb j (get_or l (base + k) 0))))

-- ---- unions, meets, differences ----

-- the set made of those of slots a and b
abbrev pub mixed : (Bool → Bool → Bool) → List ℕ → ℕ → ℕ → ℕ → ℕ → Bool
mixed f ws W a b j = f (held ws W a j) (held ws W b j)

module _ (op : ℕ → ℕ → ℕ) (f : Bool → Bool → Bool) (d : Digitwise op f) (lt : (x y : ℕ) → x < 2 ^ 64 → y < 2 ^ 64 → op x y < 2 ^ 64)
    (ws : List ℕ) (W a b c : ℕ) where
  -- a word of a slot is read before it is written
  unread : (s k : ℕ) → k < W → get_or (written ws (c * W) (mixed f ws W a b) k) (s * W + k) 0 ≡ get_or ws (s * W + k) 0
  unread s k h =
      written_other ws (c * W) (mixed f ws W a b) k (s * W + k) (λ n q e. absurd (omega (arith, place_eq s c W k n h (omega arith) e)))

  -- one word more, made of word k of either slot
  pub mix_next : (k x y : ℕ) (l r : List ℕ) → k < W → l ≡ written ws (c * W) (mixed f ws W a b) k → x < 2 ^ 64 → y < 2 ^ 64
      → x ≡ get_or l (a * W + k) 0 → y ≡ get_or l (b * W + k) 0 → r ≡ set l (c * W + k) (op x y)
      → r ≡ written ws (c * W) (mixed f ws W a b) (k + 1)
  mix_next k x y l r h e bx by ex ey g =
      let zx : x ≡ get_or ws (a * W + k) 0 = ex ∙ rw e (unread a k h) in
      let zy : y ≡ get_or ws (b * W + k) 0 = ey ∙ rw e (unread b k h) in
      written_next ws (c * W) (mixed f ws W a b) k l r (op x y) e
      (word_is (mixed f ws W a b) k (op x y) (lt x y bx by) (λ i q.
      d x y i ∙ ap₂ f (ap (λ (u : ℕ). digit u i) zx ∙ sym (held-digit ws W a k i q)) (ap (λ (u : ℕ). digit u i) zy ∙ sym (held-digit ws W b k i q))))
      g

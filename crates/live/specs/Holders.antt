-- In how many slots of a list an index is: in two or more, in three or more, word by word. Assumes nothing.
use Rattle.std.specs.Prelude.{Bool, true, false, ◌&&◌, ◌||◌, ◌≡◌, List, length, get_or, set}
use Rattle.std.proofs.Math.Bool.{cond}
use Rattle.std.proofs.Math.Path.{refl, sym, ap, ap₂}
use Rattle.std.proofs.Common.{◌∙◌, arith, suc-mul, pow-suc, le-leb}
use Prim.Native.Nat.{ℕ, zero, suc, ◌+◌, ◌*◌, ◌^◌, ◌<◌}
use Rattle.std.proofs.Math.Numerals.{add-one}
use Rattle.std.proofs.Math.Decide.{dec_le}
use Rattle.std.specs.Int.Bits.{bit_and, bit_or, and_lt}
use Rattle.std.proofs.lemmas.Nat.{or_lt}
use Rattle.std.proofs.Math.Dec.{leb}
use Rattle.std.proofs.lemmas.List.{set_comm}
use Rattle.std.proofs.lemmas.Bool.{lt-leb}
use Rattle.cells.specs.Loop.{turns}
use Rattle.bits.specs.Digits.{digit, of_digits, digit_of, or_digits, and_digits, zero_digits}
use Rattle.slots.specs.Slots.{held, word_of, written, with_set, with_set_length, held-digit, word_is, written_other, written_next, place_eq}
use Rattle.laws.specs.Booleans.{cond_most}

-- how many of the first m slots of a list hold index j
unfoldable pub holders : List ℕ → ℕ → List ℕ → ℕ → ℕ → ℕ
holders ws W live zero j = 0
holders ws W live (suc m) j = holders ws W live m j + cond (held ws W (get_or live m 0) j) 1 0

abbrev pub at_least : ℕ → List ℕ → ℕ → List ℕ → ℕ → ℕ → Bool
at_least a ws W live m j = leb a (holders ws W live m j)

-- ---- words ----

digits_lt : (n : ℕ) (p : ℕ → Bool) → of_digits n p < 2 ^ n
unfolding of_digits
digits_lt zero p = omega arith
digits_lt (suc n) p = omega (arith, digits_lt n (λ i. p (suc i)), pow-suc 2 n, cond_most (p 0) 1)

pub word_lt : (p : ℕ → Bool) (k : ℕ) → word_of p k < 2 ^ 64
unfolding word_of
word_lt p k = digits_lt 64 (λ i. p (k * 64 + i))

pub word_digit : (p : ℕ → Bool) (k i : ℕ) → i < 64 → digit (word_of p k) i ≡ p (k * 64 + i)
unfolding word_of
word_digit p k i h = digit_of 64 (λ i. p (k * 64 + i)) i h

-- ---- one slot more ----

count_more : (a c : ℕ) (h : Bool) → (leb (suc a) c || (leb a c && h)) ≡ leb (suc a) (c + cond h 1 0)
count_more a c true =
    elim (dec_le (suc a) c) [
      | yes q ↦ rw (le-leb (suc a) c q, le-leb (suc a) (c + 1) (omega arith))
      | no q ↦ elim (dec_le a c) [
        | yes r ↦ rw (lt-leb (suc a) c (omega arith), le-leb a c r, le-leb (suc a) (c + 1) (omega arith))
        | no r ↦ rw (lt-leb (suc a) c (omega arith), lt-leb a c (omega arith), lt-leb (suc a) (c + 1) (omega arith))
      ]
    ]
count_more a c false =
    elim (dec_le (suc a) c) [
      | yes q ↦ rw (le-leb (suc a) c q, le-leb (suc a) (c + 0) (omega arith))
      | no q ↦ elim (dec_le a c) [
        | yes r ↦ rw (lt-leb (suc a) c (omega arith), le-leb a c r, lt-leb (suc a) (c + 0) (omega arith))
        | no r ↦ rw (lt-leb (suc a) c (omega arith), lt-leb a c (omega arith), lt-leb (suc a) (c + 0) (omega arith))
      ]
    ]

module _ (ws : List ℕ) (W : ℕ) (live : List ℕ) (k : ℕ) where
  -- word k of the set of those that a slots or more of the first m hold
  abbrev pub count_word : ℕ → ℕ → ℕ
  count_word a m = word_of (at_least a ws W live m) k

  pub word_none : (a : ℕ) → 0 ≡ count_word (suc a) 0
  unfolding holders
  word_none a = word_is (at_least (suc a) ws W live 0) k 0 (omega arith) (λ i h. zero_digits i ∙ sym (lt-leb (suc a) 0 (omega arith)))

  pub word_next : (a m lo hi x : ℕ) → lo ≡ count_word a m → hi ≡ count_word (suc a) m → x ≡ get_or ws (get_or live m 0 * W + k) 0 → x < 2 ^ 64
      → bit_or hi (bit_and lo x) ≡ count_word (suc a) (m + 1)
  unfolding holders
  word_next a m lo hi x el eh ex lt =
      rw (el, eh, add-one m)
      (word_is (at_least (suc a) ws W live (suc m)) k _
      (or_lt 64 _ _ (word_lt (at_least (suc a) ws W live m) k) (and_lt 64 _ _ (word_lt (at_least a ws W live m) k) lt))
      (λ i h.
      or_digits (count_word (suc a) m) (bit_and (count_word a m) x) i
      ∙ ap₂ (λ (u v : Bool). u || v)
      (word_digit (at_least (suc a) ws W live m) k i h)
      (and_digits (count_word a m) x i
      ∙ ap₂ (λ (u v : Bool). u && v) (word_digit (at_least a ws W live m) k i h)
      (ap (λ (u : ℕ). digit u i) ex ∙ sym (held-digit ws W (get_or live m 0) k i h)))
      ∙ count_more a (holders ws W live m (k * 64 + i)) (held ws W (get_or live m 0) (k * 64 + i))))

  -- the first count has no lower one
  pub word_first : (m hi x : ℕ) → hi ≡ count_word 1 m → x ≡ get_or ws (get_or live m 0 * W + k) 0 → x < 2 ^ 64 → bit_or hi x ≡ count_word 1 (m + 1)
  unfolding holders
  word_first m hi x eh ex lt =
      rw (eh, add-one m)
      (word_is (at_least 1 ws W live (suc m)) k _ (or_lt 64 _ _ (word_lt (at_least 1 ws W live m) k) lt)
      (λ i h.
      or_digits (count_word 1 m) x i
      ∙ ap₂ (λ (u v : Bool). u || v)
      (word_digit (at_least 1 ws W live m) k i h)
      (ap (λ (u : ℕ). digit u i) ex ∙ sym (held-digit ws W (get_or live m 0) k i h))
      ∙ ap (λ (u : Bool). leb 1 (holders ws W live m (k * 64 + i)) || (u && held ws W (get_or live m 0) (k * 64 + i)))
      (sym (le-leb 0 (holders ws W live m (k * 64 + i)) (omega arith)))
      ∙ count_more 0 (holders ws W live m (k * 64 + i)) (held ws W (get_or live m 0) (k * 64 + i))))

-- ---- the two sets that a merge looks at, side by side ----

-- an index of the outer slot, 256, or of a slots or more of the first m
abbrev pub staying : ℕ → List ℕ → ℕ → List ℕ → ℕ → ℕ → Bool
staying a ws W live m j = at_least a ws W live m j || held ws W 256 j

-- the words in which slot 257 holds what two or more hold, and slot 258 what three or more hold, each with the outer slot
unfoldable pub with_holders : List ℕ → ℕ → List ℕ → ℕ → List ℕ
with_holders ws W live m = with_set (with_set ws W 257 (staying 2 ws W live m)) W 258 (staying 3 ws W live m)

pub holders_length : (ws : List ℕ) (W : ℕ) (live : List ℕ) (m : ℕ) → length (with_holders ws W live m) ≡ length ws
unfolding with_holders
holders_length ws W live m =
    with_set_length (with_set ws W 257 (staying 2 ws W live m)) W 258 (staying 3 ws W live m) ∙ with_set_length ws W 257 (staying 2 ws W live m)

written_set : (ws : List ℕ) (at : ℕ) (p : ℕ → Bool) (n i x : ℕ) → ((k : ℕ) → k < n → i ≡ at + k → ⊥)
    → set (written ws at p n) i x ≡ written (set ws i x) at p n
unfolding written turns
written_set ws at p zero i x f = refl
written_set ws at p (suc n) i x f =
    set_comm (written ws at p n) (at + n) i _ x (λ e. f n (omega arith) (sym e))
    ∙ ap (λ (l : List ℕ). set l (at + n) (word_of p n)) (written_set ws at p n i x (λ k h. f k (omega arith)))

module _ (ws : List ℕ) (W : ℕ) (live : List ℕ) (m : ℕ) where
  -- the first k words of both
  abbrev pub side_by_side : ℕ → List ℕ
  side_by_side k = written (written ws (257 * W) (staying 2 ws W live m) k) (258 * W) (staying 3 ws W live m) k

  pub side_none : ws ≡ side_by_side 0
  unfolding written turns
  side_none = refl

  -- a word is read before it is written
  unread : (s k : ℕ) → k < W → get_or (side_by_side k) (s * W + k) 0 ≡ get_or ws (s * W + k) 0
  unread s k h =
      written_other _ (258 * W) (staying 3 ws W live m) k (s * W + k) (λ n q e. absurd (omega (arith, place_eq s 258 W k n h (omega arith) e)))
      ∙ written_other ws (257 * W) (staying 2 ws W live m) k (s * W + k) (λ n q e. absurd (omega (arith, place_eq s 257 W k n h (omega arith) e)))

  held_unread : (s k i : ℕ) → k < W → i < 64 → held (side_by_side k) W s (k * 64 + i) ≡ held ws W s (k * 64 + i)
  held_unread s k i h b =
      held-digit (side_by_side k) W s k i b ∙ ap (λ (u : ℕ). digit u i) (unread s k h) ∙ sym (held-digit ws W s k i b)

  holders_unread : (n k i : ℕ) → k < W → i < 64 → holders (side_by_side k) W live n (k * 64 + i) ≡ holders ws W live n (k * 64 + i)
  unfolding holders
  holders_unread zero k i h b = refl
  holders_unread (suc n) k i h b =
      ap₂ (λ (u : ℕ) (v : Bool). u + cond v 1 0) (holders_unread n k i h b) (held_unread (get_or live n 0) k i h b)

  side_word : (a k x e : ℕ) → k < W → x ≡ count_word (side_by_side k) W live k a m → e ≡ get_or (side_by_side k) (256 * W + k) 0 → e < 2 ^ 64
      → bit_or x e ≡ word_of (staying a ws W live m) k
  side_word a k x e h p q lt =
      rw p
      (word_is (staying a ws W live m) k _ (or_lt 64 _ _ (word_lt _ k) lt) (λ i b.
      or_digits _ e i
      ∙ ap₂ (λ (u v : Bool). u || v)
      (word_digit (at_least a (side_by_side k) W live m) k i b ∙ ap (leb a) (holders_unread m k i h b))
      (ap (λ (u : ℕ). digit u i) (q ∙ unread 256 k h) ∙ sym (held-digit ws W 256 k i b))))

  pub side_next : (k two three e : ℕ) (l g r : List ℕ) → k < W → l ≡ side_by_side k
      → two ≡ count_word l W live k 2 m → three ≡ count_word l W live k 3 m → e ≡ get_or l (256 * W + k) 0 → e < 2 ^ 64
      → g ≡ set l (257 * W + k) (bit_or two e) → r ≡ set g (258 * W + k) (bit_or three e) → r ≡ side_by_side (k + 1)
  side_next k two three e l g r h el e2 e3 ee lt eg er =
      let below : ℕ → Bool = staying 2 ws W live m in
      let over : ℕ → Bool = staying 3 ws W live m in
      let v2 : bit_or two e ≡ word_of below k = side_word 2 k two e h (e2 ∙ ap (λ (z : List ℕ). count_word z W live k 2 m) el) (ee ∙ ap (λ (z : List ℕ). get_or z (256 * W + k) 0) el) lt in
      let v3 : bit_or three e ≡ word_of over k = side_word 3 k three e h (e3 ∙ ap (λ (z : List ℕ). count_word z W live k 3 m) el) (ee ∙ ap (λ (z : List ℕ). get_or z (256 * W + k) 0) el) lt in
      let x = written ws (257 * W) below k in
      let gg : g ≡ written (written ws (257 * W) below (k + 1)) (258 * W) over k =
      eg ∙ ap (λ (z : List ℕ). set z (257 * W + k) (bit_or two e)) el
      ∙ written_set x (258 * W) over k (257 * W + k) (bit_or two e) (λ n q z. omega (arith, suc-mul 257 W))
      ∙ ap (λ (z : List ℕ). written z (258 * W) over k) (written_next ws (257 * W) below k x _ (bit_or two e) refl v2 refl) in
      written_next (written ws (257 * W) below (k + 1)) (258 * W) over k g r (bit_or three e) gg v3 er

  pub side_end : (k : ℕ) (l : List ℕ) → k ≡ W → l ≡ side_by_side k → l ≡ with_holders ws W live m
  unfolding with_holders with_set
  side_end k l e h = h ∙ ap side_by_side e

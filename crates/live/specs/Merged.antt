-- The table that a merge of two makes: an index of both stays where slot 258 holds it, an index of one where slot 257 does. Its words,
-- and its size, word by word. Assumes nothing.
use Rattle.std.specs.Prelude.{Bool, true, false, not, ◌&&◌, ◌||◌, cond, ◌≡◌, List, [], ℕ, zero, suc, ◌+◌, ◌*◌, ◌^◌, ◌<◌, ◌≤◌, get_or, set, map}
use Rattle.std.specs.List.{sum, range_with_len}
use Rattle.std.proofs.lemmas.List.FromFn.{sum_by-map-range_with_len_more}
use Rattle.std.proofs.Math.Path.{refl, ap}
use Rattle.std.proofs.Common.{sym, ◌∙◌, ap₂, add-one}
use native.Mathlib.Omega.{arith}
use Rattle.std.specs.Int.Bits.{bit_and, bit_or, bit_xor, and_lt}
use Rattle.std.proofs.lemmas.Nat.{or_lt, xor_lt}
use Rattle.spec.specs.Lists.{keep, range, sum_of}
use Rattle.laws.specs.ListLaws.{sum_append}
use Rattle.bits.specs.Digits.{digit, or_digits, and_digits, xor_digits}
use Rattle.bits.specs.Lowest.{Tests, places}
use Rattle.slots.specs.Slots.{held, word_of, written, Words, held-digit, word_is, written_other, written_next, place_eq}
use Rattle.slots.specs.Rising.{word_more}
use Rattle.slots.specs.Weigh.{Light, open_weight, weighed, word_weight, weighed_none, weighed_most}

-- does an index stay: is it in the first, in the second, in two tables or more, in three or more
abbrev pub stays : Bool → Bool → Bool → Bool → Bool
stays x y two three = cond x (cond y three two) (y && two)

-- the indices of the table that a merge of slots x and y makes
abbrev pub merged_set : List ℕ → ℕ → ℕ → ℕ → ℕ → Bool
merged_set ws W x y j = stays (held ws W x j) (held ws W y j) (held ws W 257 j) (held ws W 258 j)

-- its size bits, by the weights in a list
unfoldable pub pair_bits : List ℕ → ℕ → List ℕ → ℕ → ℕ → ℕ
pair_bits ws W wt x y = weighed wt [] (merged_set ws W x y) (W * 64)

-- ---- words ----

abbrev pub merged_word : ℕ → ℕ → ℕ → ℕ → ℕ
merged_word x y two three = bit_or (bit_and (bit_and x y) three) (bit_and (bit_xor x y) two)

stays_digit : (x y two three : Bool) → (x && y && three || (cond x (not y) y && two)) ≡ stays x y two three
stays_digit true true two true = refl
stays_digit true true two false = refl
stays_digit true false two three = refl
stays_digit false true two three = refl
stays_digit false false two three = refl

merged_digit : (x y two three i : ℕ) → digit (merged_word x y two three) i ≡ stays (digit x i) (digit y i) (digit two i) (digit three i)
merged_digit x y two three i =
    or_digits (bit_and (bit_and x y) three) (bit_and (bit_xor x y) two) i
    ∙ ap₂ (λ (u v : Bool). u || v)
    (and_digits (bit_and x y) three i ∙ ap (λ (u : Bool). u && digit three i) (and_digits x y i))
    (and_digits (bit_xor x y) two i ∙ ap (λ (u : Bool). u && digit two i) (xor_digits x y i))
    ∙ stays_digit (digit x i) (digit y i) (digit two i) (digit three i)

merged_lt : (x y two three : ℕ) → x < 2 ^ 64 → y < 2 ^ 64 → two < 2 ^ 64 → three < 2 ^ 64 → merged_word x y two three < 2 ^ 64
merged_lt x y two three hx hy h2 h3 =
    or_lt 64 _ _ (and_lt 64 _ _ (and_lt 64 _ _ hx hy) h3) (and_lt 64 _ _ (xor_lt 64 _ _ hx hy) h2)

module _ (ws : List ℕ) (W x y : ℕ) where
  -- word k of the merged set
  abbrev pub word_at : ℕ → ℕ
  word_at k = merged_word (get_or ws (x * W + k) 0) (get_or ws (y * W + k) 0) (get_or ws (257 * W + k) 0) (get_or ws (258 * W + k) 0)

  merged_tests : (k : ℕ) → Tests (merged_set ws W x y) (k * 64) 64 (word_at k)
  merged_tests k i h =
      ap₂ (λ (p q : Bool). stays p q (held ws W 257 (k * 64 + i)) (held ws W 258 (k * 64 + i))) (held-digit ws W x k i h) (held-digit ws W y k i h)
      ∙ ap₂ (λ (p q : Bool). stays (digit (get_or ws (x * W + k) 0) i) (digit (get_or ws (y * W + k) 0) i) p q) (held-digit ws W 257 k i h) (held-digit ws W 258 k i h)
      ∙ sym (merged_digit _ _ _ _ i)

  word_merged : Words ws → (k : ℕ) → word_at k ≡ word_of (merged_set ws W x y) k
  word_merged h k = word_is (merged_set ws W x y) k (word_at k) (merged_lt _ _ _ _ (h _) (h _) (h _) (h _)) (λ i b. sym (merged_tests k i b))

  -- ---- its size ----

  module _ (wt fl : List ℕ) where
    pub size_none : 0 ≡ weighed wt fl (merged_set ws W x y) (0 * 64)
    size_none = weighed_none wt fl (merged_set ws W x y)

    pub size_next : (k sum v r : ℕ) → sum ≡ weighed wt fl (merged_set ws W x y) (k * 64) → v ≡ word_at k
        → r ≡ word_weight wt fl (k * 64) v → sum + r ≡ weighed wt fl (merged_set ws W x y) ((k + 1) * 64)
    unfolding weighed
    size_next k sum v r h e er =
        let z : r ≡ word_weight wt fl (k * 64) (word_at k) = er ∙ ap (word_weight wt fl (k * 64)) e in
        omega (
          arith,
          h,
          z,
          ap (sum_of (open_weight wt fl)) (word_more 64 (merged_set ws W x y) k (word_at k) (merged_tests k)),
          sum_append (open_weight wt fl) (keep (merged_set ws W x y) (range (k * 64))) (places (k * 64) 64 (word_at k)),
        )

  module _ (wt : List ℕ) where
    -- the weights of word k
    abbrev pub weight_at : ℕ → ℕ
    weight_at k = word_weight wt [] (k * 64) (word_at k)

    sized : (k : ℕ) → sum (map weight_at (range_with_len 0 k)) ≡ weighed wt [] (merged_set ws W x y) (k * 64)
    sized zero = size_none wt []
    sized (suc k) =
        ap (λ (n : ℕ). sum (map weight_at (range_with_len 0 n))) (sym (add-one k))
        ∙ sum_by-map-range_with_len_more (λ (n : ℕ). n) weight_at 0 k k (omega arith)
        ∙ size_next wt [] k _ _ (weight_at k) (sized k) refl refl
        ∙ ap (λ (n : ℕ). weighed wt [] (merged_set ws W x y) (n * 64)) (add-one k)

    pub size_all : sum (map weight_at (range_with_len 0 W)) ≡ pair_bits ws W wt x y
    unfolding pair_bits
    size_all = sized W

    pub size_fits : W ≤ 16 → Light wt → sum (map weight_at (range_with_len 0 W)) < 2 ^ 64
    size_fits h light = omega (arith, sized W, weighed_most wt [] (merged_set ws W x y) (W * 64) light)

  -- ---- written into slot z ----

  module _ (z : ℕ) where
    abbrev pub written_to : ℕ → List ℕ
    written_to k = written ws (z * W) (merged_set ws W x y) k

    -- a word is read before it is written
    unread : (s k : ℕ) → k < W → get_or (written_to k) (s * W + k) 0 ≡ get_or ws (s * W + k) 0
    unread s k h =
        written_other ws (z * W) (merged_set ws W x y) k (s * W + k) (λ n q e. absurd (omega (arith, place_eq s z W k n h (omega arith) e)))

    same_word : (k : ℕ) → k < W
        → merged_word (get_or (written_to k) (x * W + k) 0) (get_or (written_to k) (y * W + k) 0) (get_or (written_to k) (257 * W + k) 0) (get_or (written_to k) (258 * W + k) 0)
        ≡ word_at k
    same_word k h =
        ap₂ (λ (p q : ℕ). merged_word p q (get_or (written_to k) (257 * W + k) 0) (get_or (written_to k) (258 * W + k) 0)) (unread x k h) (unread y k h)
        ∙ ap₂ (λ (p q : ℕ). merged_word (get_or ws (x * W + k) 0) (get_or ws (y * W + k) 0) p q) (unread 257 k h) (unread 258 k h)

    pub merged_next : Words ws → (k v : ℕ) (l r : List ℕ) → k < W → l ≡ written_to k
        → v ≡ merged_word (get_or l (x * W + k) 0) (get_or l (y * W + k) 0) (get_or l (257 * W + k) 0) (get_or l (258 * W + k) 0)
        → r ≡ set l (z * W + k) v → r ≡ written_to (k + 1)
    merged_next h k v l r b e ev er =
        written_next ws (z * W) (merged_set ws W x y) k l r v e
        (ev ∙ ap (λ (l : List ℕ). merged_word (get_or l (x * W + k) 0) (get_or l (y * W + k) 0) (get_or l (257 * W + k) 0) (get_or l (258 * W + k) 0)) e
        ∙ same_word k b ∙ word_merged h k)
        er

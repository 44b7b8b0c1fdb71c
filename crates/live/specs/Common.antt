-- Have two slots an index in common: word by word, up to the first word that has one. Assumes nothing.
use Rattle.std.specs.Prelude.{Bool, false, ◌&&◌, ◌≡◌, List, [], ◌++◌, get_or, length}
use Rattle.std.proofs.Math.Bool.{true}
use Rattle.std.proofs.Math.Path.{refl, sym, subst, ap, ap₂}
use Rattle.std.proofs.Common.{◌∙◌, arith, add-one}
use Prim.Native.Nat.{ℕ, zero, suc, ◌+◌, ◌-◌, ◌*◌, ◌^◌, ◌<◌}
use Rattle.std.proofs.Math.Nat.{mul-le-mul_right, suc-mul}
use Rattle.std.specs.Int.Bits.{bit_and, and_lt}
use Rattle.std.specs.Bool.{MatchBool}
use Rattle.std.specs.List.{range_with_len, AllWithin, HoldsAt}
use Rattle.std.proofs.lemmas.List.FromFn.{length-range_with_len, get_or-range_with_len}
use Rattle.std.specs.Int.Count.{count_trailing_zeros}
use Rattle.spec.specs.Lists.{memb, keep, range, anyb}
use Rattle.laws.specs.Booleans.{by_cases, clash, or_intror}
use Rattle.laws.specs.ListLaws.{memb_head, memb-keep, memb-range, keep_passes, memb-append, any_intro, any_elim}
use Rattle.bits.specs.Digits.{and_digits}
use Rattle.bits.specs.Lowest.{Tests, places, places_step, places_none, tz_small}
use Rattle.slots.specs.Slots.{Words, held, held-digit}
use Rattle.slots.specs.Rising.{word_more}

-- is index j in both slots
abbrev pub common : List ℕ → ℕ → ℕ → ℕ → ℕ → Bool
common ws W x y j = held ws W x j && held ws W y j

-- have slots x and y an index in common
unfoldable pub shares : List ℕ → ℕ → ℕ → ℕ → Bool
shares ws W x y = anyb (common ws W x y) (range (W * 64))

module _ (ws : List ℕ) (W x y : ℕ) where
  -- what slots x and y have in common below n
  abbrev pub both : ℕ → List ℕ
  both n = keep (common ws W x y) (range n)

  common_tests : (k : ℕ) → Tests (common ws W x y) (k * 64) 64 (bit_and (get_or ws (x * W + k) 0) (get_or ws (y * W + k) 0))
  common_tests k i h =
      ap₂ (λ (a b : Bool). a && b) (held-digit ws W x k i h) (held-digit ws W y k i h)
      ∙ sym (and_digits (get_or ws (x * W + k) 0) (get_or ws (y * W + k) 0) i)

  both_next : (k a b : ℕ) → a ≡ get_or ws (x * W + k) 0 → b ≡ get_or ws (y * W + k) 0
      → both ((k + 1) * 64) ≡ both (k * 64) ++ places (k * 64) 64 (bit_and a b)
  both_next k a b p q = rw (p, q) (word_more 64 (common ws W x y) k _ (common_tests k))

  -- a word with nothing in common, and the end
  pub share_next : (k a b : ℕ) → a ≡ get_or ws (x * W + k) 0 → b ≡ get_or ws (y * W + k) 0 → bit_and a b ≡ 0
      → both (k * 64) ≡ [] → both ((k + 1) * 64) ≡ []
  share_next k a b p q z h = both_next k a b p q ∙ rw (h, z) (places_none (k * 64) 64)

  pub share_end : (k : ℕ) → k ≡ W → both (k * 64) ≡ [] → false ≡ shares ws W x y
  unfolding shares
  share_end k e h =
      by_cases (anyb (common ws W x y) (range (W * 64)))
      (λ t. any_elim (common ws W x y) 0 (W * 64) t (λ i b c.
      clash
      (memb-keep i (common ws W x y) (range (W * 64)) ∙ ap₂ (λ (u v : Bool). u && v) c (memb-range i (W * 64) (omega arith)))
      (ap (memb i) (ap (λ (n : ℕ). both (n * 64)) (sym e) ∙ h))))
      (λ f. sym f)

  -- a word with a common index
  pub share_found : (k : ℕ) → k < W → (bit_and (get_or ws (x * W + k) 0) (get_or ws (y * W + k) 0) ≡ 0 → ⊥) → bit_and (get_or ws (x * W + k) 0) (get_or ws (y * W + k) 0) < 2 ^ 64
      → true ≡ shares ws W x y
  unfolding shares
  share_found k l n lt =
      let v = bit_and (get_or ws (x * W + k) 0) (get_or ws (y * W + k) 0) in
      let pos : 0 < v = omega (arith, n) in
      let j = k * 64 + count_trailing_zeros 64 v in
      let small : j < W * 64 = omega (arith, tz_small 64 v pos lt, mul-le-mul_right {m = suc k} {n = W} 64 l, suc-mul k 64) in
      let last : memb j (places (k * 64) 64 v) ≡ true = ap (memb j) (places_step (k * 64) 64 v pos lt) ∙ memb_head j (places (k * 64) 64 (bit_and v (v - 1))) in
      let m : memb j (both ((k + 1) * 64)) ≡ true = ap (memb j) (both_next k _ _ refl refl) ∙ memb-append j (both (k * 64)) (places (k * 64) 64 v) ∙ or_intror (memb j (both (k * 64))) (memb j (places (k * 64) 64 v)) last in
      sym (any_intro (common ws W x y) j (range (W * 64)) (keep_passes j (common ws W x y) (range ((k + 1) * 64)) m) (memb-range j (W * 64) small))

  -- what a search word by word found
  abbrev pub Shared : ℕ → Type 0
  Shared k = bit_and (get_or ws (x * W + k) 0) (get_or ws (y * W + k) 0) ≡ 0 → ⊥

  abbrev pub Apart : ℕ → Type 0
  Apart k = bit_and (get_or ws (x * W + k) 0) (get_or ws (y * W + k) 0) ≡ 0

  no_words : (k : ℕ) → ((i : ℕ) → i < k → Apart i) → both (k * 64) ≡ []
  no_words zero h = refl
  no_words (suc k) h = ap (λ (n : ℕ). both (n * 64)) (sym (add-one k)) ∙ share_next k _ _ refl refl (h k (omega arith)) (no_words k (λ i l. h i (omega arith)))

  numbered : (k : ℕ) → k < W → get_or (range_with_len 0 W) k 0 ≡ k
  numbered k l = get_or-range_with_len 0 W k 0 l ∙ omega arith

  -- `any` over the numbers of the words
  pub share_any : Words ws → (r : Bool)
      → MatchBool r ((k : ℕ) × (k < length (range_with_len 0 W)) × HoldsAt Shared (range_with_len 0 W) k) (AllWithin Apart (range_with_len 0 W) 0 (length (range_with_len 0 W)))
      → r ≡ shares ws W x y
  share_any fits true h =
      let l : h.0 < W = omega (arith, h.1, length-range_with_len 0 W) in
      share_found h.0 l (subst Shared (numbered h.0 l) (h.2 0)) (and_lt 64 _ _ (fits _) (fits _))
  share_any fits false h =
      share_end W refl (no_words W (λ i l. subst Apart (numbered i l) (h i 0 (omega arith) (omega (arith, l, length-range_with_len 0 W)))))

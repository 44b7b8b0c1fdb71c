-- Folds over a lent list's first members, and over a range. Assumes nothing.
use Rattle.std.specs.Prelude.{◌≡◌, refl, List, [], ◌∷◌, ◌++◌, map, ℕ, ◌+◌, ◌-◌, ◌*◌, ◌^◌, ◌<◌, length, get_or, take}
use Rattle.std.proofs.Common.{sym, ◌∙◌, arith, add-one, take-suc}
use Rattle.std.proofs.Math.Path.{ap}
use Rattle.std.specs.Int.Bits.{bit_and}
use Rattle.std.specs.Int.Count.{count_trailing_zeros}
use Rattle.spec.specs.Lists.{keep, range}
use Rattle.spec.specs.Hypergraph.{fold_over}
use Rattle.bits.specs.Lowest.{places, places_step, places_none}
use Rattle.slots.specs.Slots.{held}
use Rattle.slots.specs.Rising.{rising_of, word_more, held_tests}
use Rattle.laws.specs.ListLaws.{from_last}

pub fold_append : {A S : Type 0} (f : A → S → S) (k l : List A) (s : S) → fold_over f (k ++ l) s ≡ fold_over f l (fold_over f k s)
fold_append f [] l s = refl
fold_append f (x ∷ k) l s = fold_append f k l (f x s)

pub fold_map : {A B S : Type 0} (f : B → S → S) (h : A → B) (l : List A) (s : S) → fold_over f (map h l) s ≡ fold_over (λ x. f (h x)) l s
fold_map f h [] s = refl
fold_map f h (x ∷ l) s = fold_map f h l (f (h x) s)

-- one member more
pub fold_next : {S : Type 0} (f : ℕ → S → S) (l : List ℕ) (s g r : S) (k : ℕ) → k < length l → g ≡ fold_over f (take k l) s → r ≡ f (get_or l k 0) g
    → r ≡ fold_over f (take (k + 1) l) s
fold_next f l s g r k h p q =
    q ∙ ap (f (get_or l k 0)) p ∙ sym (ap (λ z. fold_over f z s) (ap (λ n. take n l) (add-one k) ∙ take-suc l k 0 h) ∙ fold_append f (take k l) (get_or l k 0 ∷ []) s)

-- ---- folds over a range ----

pub range_next : {S : Type 0} (f : ℕ → S → S) (s g r : S) (k : ℕ) → g ≡ fold_over f (range k) s → r ≡ f k g → r ≡ fold_over f (range (k + 1)) s
range_next f s g r k p e =
    let z : 0 + k ≡ k = omega arith in
    e ∙ ap (f k) p
    ∙ sym (ap (λ n. fold_over f (range n) s) (add-one k) ∙ ap (λ l. fold_over f l s) (from_last 0 k)
    ∙ fold_append f (range k) ((0 + k) ∷ []) s ∙ ap (λ (n : ℕ). f n (fold_over f (range k) s)) z)

-- ---- folds over the members of a slot, word by word ----

module _ {S : Type 0} (f : ℕ → S → S) where
  -- one member more of those that are left, and none left
  pub fold_turn : (l m : List ℕ) (i : ℕ) (g r z : S) → l ≡ i ∷ m → r ≡ f i g → fold_over f l g ≡ z → fold_over f m r ≡ z
  fold_turn l m i g r z e q h = ap (fold_over f m) q ∙ sym (ap (λ k. fold_over f k g) e) ∙ h

  pub fold_stop : (l : List ℕ) (g z : S) → l ≡ [] → fold_over f l g ≡ z → g ≡ z
  fold_stop l g z e h = sym (ap (λ k. fold_over f k g) e) ∙ h

  -- from a word's lowest set digit to the next
  pub fold_place : (base rest t : ℕ) (g r z : S) → 0 < rest → rest < 2 ^ 64 → t ≡ count_trailing_zeros 64 rest → r ≡ f (base + t) g
      → fold_over f (places base 64 rest) g ≡ z → fold_over f (places base 64 (bit_and rest (rest - 1))) r ≡ z
  fold_place base rest t g r z pos lt e q h =
      ap (fold_over f (places base 64 (bit_and rest (rest - 1)))) (q ∙ ap (λ (k : ℕ). f (base + k) g) e)
      ∙ sym (ap (λ l. fold_over f l g) (places_step base 64 rest pos lt))
      ∙ h

  pub fold_places : (base rest : ℕ) (g z : S) → rest ≡ 0 → fold_over f (places base 64 rest) g ≡ z → g ≡ z
  fold_places base rest g z e h = sym (ap (λ (k : ℕ). fold_over f (places base 64 k) g) e ∙ ap (λ l. fold_over f l g) (places_none base 64)) ∙ h

  -- one word more
  pub fold_word : (ws : List ℕ) (W s k x : ℕ) (z g r : S) → g ≡ fold_over f (keep (held ws W s) (range (k * 64))) z → x ≡ get_or ws (s * W + k) 0
      → r ≡ fold_over f (places (k * 64) 64 x) g → r ≡ fold_over f (keep (held ws W s) (range ((k + 1) * 64))) z
  fold_word ws W s k x z g r p e q =
      q
      ∙ (λ i. fold_over f (places (k * 64) 64 (e i)) (p i))
      ∙ sym (ap (λ l. fold_over f l z) (word_more 64 (held ws W s) k (get_or ws (s * W + k) 0) (held_tests ws W s k))
      ∙ fold_append f (keep (held ws W s) (range (k * 64))) (places (k * 64) 64 (get_or ws (s * W + k) 0)) z)

  -- all words
  pub fold_slot : (ws : List ℕ) (W s k : ℕ) (z g : S) → k ≡ W → g ≡ fold_over f (keep (held ws W s) (range (k * 64))) z → g ≡ fold_over f (rising_of ws W s) z
  unfolding rising_of
  fold_slot ws W s k z g e p = p ∙ ap (λ (n : ℕ). fold_over f (keep (held ws W s) (range (n * 64))) z) e

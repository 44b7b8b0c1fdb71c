-- The vertices that are on a side and have not moved: the first entry is found among them. Assumes nothing.
use Rattle.std.specs.Prelude.{Bool, false, not, ◌&&◌, ◌||◌, ◌≡◌, refl, List, [], ◌∷◌, ◌++◌, ℕ, zero, suc, ◌+◌, ◌-◌, ◌*◌, ◌≤◌, ◌<◌, get_or}
use Rattle.std.proofs.Common.{sym, ap, ◌∙◌, arith}
use Rattle.std.proofs.Math.Decide.{dec_lt}
use Rattle.std.specs.Int.Bits.{bit_or}
use Rattle.spec.specs.Lists.{keep, from, range}
use Rattle.spec.specs.Hypergraph.{fold_over}
use Rattle.laws.specs.Booleans.{by_cases}
use Rattle.bits.specs.Digits.{digit, bit_diff, or_digits, diff_digits}
use Rattle.bits.specs.Lowest.{Tests, places}
use Rattle.slots.specs.Slots.{held, held-digit}
use Rattle.slots.specs.Rising.{word_more}
use Rattle.partition.specs.Folds.{fold_append}

-- the sides are in slots `sides` and `sides + 1`, and those that have moved in the next one
abbrev pub open_in : List ℕ → ℕ → ℕ → Bool
open_in ws sides v = (held ws 2 sides v || held ws 2 (sides + 1) v) && not (held ws 2 (sides + 2) v)

module _ (ws : List ℕ) (sides k : ℕ) where
  pub open_word : (x y z : ℕ) → x ≡ get_or ws (sides * 2 + k) 0 → y ≡ get_or ws (sides * 2 + k + 2) 0 → z ≡ get_or ws (sides * 2 + k + 4) 0
      → Tests (open_in ws sides) (k * 64) 64 (bit_diff (bit_or x y) z)
  open_word x y z e f g i h =
      let a : sides * 2 + k + 2 ≡ (sides + 1) * 2 + k = omega arith in
      let b : sides * 2 + k + 4 ≡ (sides + 2) * 2 + k = omega arith in
      let p : held ws 2 sides (k * 64 + i) ≡ digit x i = held-digit ws 2 sides k i h ∙ sym (ap (λ (w : ℕ). digit w i) e) in
      let q : held ws 2 (sides + 1) (k * 64 + i) ≡ digit y i =
      held-digit ws 2 (sides + 1) k i h ∙ sym (ap (λ (w : ℕ). digit w i) (f ∙ ap (λ (j : ℕ). get_or ws j 0) a)) in
      let r : held ws 2 (sides + 2) (k * 64 + i) ≡ digit z i =
      held-digit ws 2 (sides + 2) k i h ∙ sym (ap (λ (w : ℕ). digit w i) (g ∙ ap (λ (j : ℕ). get_or ws j 0) b)) in
      (λ j. (p j || q j) && not (r j))
      ∙ sym (diff_digits (bit_or x y) z i ∙ ap (λ t. t && not (digit z i)) (or_digits x y i))

-- ---- folds that pass over what changes nothing ----

module _ {S : Type 0} (f : ℕ → S → S) where
  fold_skip : (p : ℕ → Bool) (l : List ℕ) (s : S) → ((v : ℕ) → p v ≡ false → (t : S) → f v t ≡ t) → fold_over f (keep p l) s ≡ fold_over f l s
  fold_skip p [] s h = refl
  fold_skip p (v ∷ l) s h =
      by_cases (p v)
      (λ e. rw e (fold_skip p l (f v s) h))
      (λ e. rw e (fold_skip p l s h ∙ sym (ap (fold_over f l) (h v e s))))

  fold_still : (k j : ℕ) (s : S) → ((v : ℕ) → k ≤ v → (t : S) → f v t ≡ t) → fold_over f (from k j) s ≡ s
  fold_still k zero s h = refl
  fold_still k (suc j) s h = ap (fold_over f (from (suc k) j)) (h k (omega arith) s) ∙ fold_still (suc k) j s (λ v g t. h v (omega arith) t)

  fold_from : (k a b : ℕ) (s : S) → fold_over f (from k (a + b)) s ≡ fold_over f (from (k + a) b) (fold_over f (from k a) s)
  fold_from k zero b s =
      let e : zero + b ≡ b = omega arith in
      let g : k ≡ k + zero = omega arith in
      ap (λ (n : ℕ). fold_over f (from k n) s) e ∙ ap (λ (n : ℕ). fold_over f (from n b) s) g
  fold_from k (suc a) b s =
      let e : suc a + b ≡ suc (a + b) = omega arith in
      let g : suc k + a ≡ k + suc a = omega arith in
      ap (λ (n : ℕ). fold_over f (from k n) s) e
      ∙ fold_from (suc k) a b (f k s)
      ∙ ap (λ (n : ℕ). fold_over f (from n b) (fold_over f (from (suc k) a) (f k s))) g

  -- from k on nothing changes
  pub fold_past : (k n : ℕ) (s : S) → k ≤ n → ((v : ℕ) → k ≤ v → (t : S) → f v t ≡ t) → fold_over f (range n) s ≡ fold_over f (range k) s
  fold_past k n s b h =
      let split : n ≡ k + (n - k) = omega arith in
      ap (λ (j : ℕ). fold_over f (range j) s) split
      ∙ fold_from 0 k (n - k) s
      ∙ fold_still (0 + k) (n - k) (fold_over f (range k) s) (λ v g t. h v (omega arith) t)

  -- two words of w digits have all that matters below n
  pub fold_open : (p : ℕ → Bool) (w n x y : ℕ) (s : S) → Tests p (0 * w) w x → Tests p (1 * w) w y → n ≤ 2 * w
      → ((v : ℕ) → v < n → p v ≡ false → (t : S) → f v t ≡ t) → ((v : ℕ) → n ≤ v → (t : S) → f v t ≡ t)
      → fold_over f (places (1 * w) w y) (fold_over f (places (0 * w) w x) s) ≡ fold_over f (range n) s
  fold_open p w n x y s hx hy b closed past =
      let none : 0 * w ≡ 0 = omega arith in
      let first : keep p (range (1 * w)) ≡ places (0 * w) w x =
      word_more w p 0 x hx ∙ ap (λ (k : ℕ). keep p (range k) ++ places (0 * w) w x) none in
      let all : keep p (range (2 * w)) ≡ places (0 * w) w x ++ places (1 * w) w y =
      word_more w p 1 y hy ∙ ap (λ l. l ++ places (1 * w) w y) first in
      sym (fold_append f (places (0 * w) w x) (places (1 * w) w y) s)
      ∙ sym (ap (λ l. fold_over f l s) all)
      ∙ fold_skip p (range (2 * w)) s (λ v e t. elim (dec_lt v n) [ yes h ↦ closed v h e t | no h ↦ past v (omega arith) t ])
      ∙ fold_past n (2 * w) s b past

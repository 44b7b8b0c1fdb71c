-- Laws of lists of words in which each slot below m holds what its test says. Assumes nothing.
use Rattle.std.specs.Prelude.{Bool, false, ◌||◌, ◌≡◌, List, length, get_or}
use Rattle.std.proofs.Math.Path.{refl, sym}
use Rattle.std.proofs.Common.{◌∙◌, ap, arith, mul-zero, div-lt_iff_lt-mul, mod-lt, div-add-mod', ext_get_or}
use Prim.Native.Nat.{ℕ, zero, suc, ◌+◌, ◌*◌, ◌/◌, ◌%◌, ◌≤◌, ◌<◌}
use Rattle.std.proofs.Math.Nat.{suc-mul}
use Rattle.std.proofs.Math.Decide.{ℕ_discrete, dec_le}
use Rattle.cells.specs.Loop.{turns, turns_none, turns_next, turns_end}
use Rattle.slots.specs.Slots.{held, word_of, with_set, Words, with_set_length, with_set_word, with_set_outside, held_with, held_with_other, held-digit, word_is, slot_eq}
use Rattle.slots.specs.Writes.{among, refilled, leaf_has}
use Rattle.nodesets.specs.Passes.{with_sets}

module _ (ws : List ℕ) (W : ℕ) (F : ℕ → ℕ → Bool) where
  pub with_sets_none : ws ≡ with_sets ws W F 0
  unfolding with_sets
  with_sets_none = sym (turns_none _ _)

  pub with_sets_next : (k : ℕ) (l r : List ℕ) → l ≡ with_sets ws W F k → r ≡ with_set l W k (F k) → r ≡ with_sets ws W F (k + 1)
  unfolding with_sets
  with_sets_next k l r e g = turns_next _ _ k e g

  pub with_sets_end : (k m : ℕ) (l : List ℕ) → k ≡ m → l ≡ with_sets ws W F k → l ≡ with_sets ws W F m
  unfolding with_sets
  with_sets_end k m l e g = turns_end _ _ e g

  pub with_sets_length : (m : ℕ) → length (with_sets ws W F m) ≡ length ws
  unfolding with_sets turns
  with_sets_length zero = refl
  with_sets_length (suc m) = with_set_length _ W m (F m) ∙ with_sets_length m

  -- what the slots hold
  pub held-with_sets : (m s j : ℕ) → m * W ≤ length ws → s < m → j < W * 64 → held (with_sets ws W F m) W s j ≡ F s j
  unfolding with_sets turns
  held-with_sets zero s j r h b = absurd (omega arith)
  held-with_sets (suc m) s j r h b =
      elim (ℕ_discrete s m) [
        | yes e ↦ rw e (held_with (with_sets ws W F m) W m (F m) j (omega (arith, with_sets_length m, suc-mul m W)) b)
        | no g ↦ held_with_other (with_sets ws W F m) W m (F m) s j b g ∙ held-with_sets m s j (omega (arith, suc-mul m W)) (omega (arith, g)) b
      ]

  -- the words past them stay
  pub with_sets_past : (m i : ℕ) → m * W ≤ i → get_or (with_sets ws W F m) i 0 ≡ get_or ws i 0
  unfolding with_sets turns
  with_sets_past zero i h = refl
  with_sets_past (suc m) i h =
      with_set_outside (with_sets ws W F m) W m (F m) i (λ k b e. omega (arith, suc-mul m W)) ∙ with_sets_past m i (omega (arith, suc-mul m W))

  with_sets_word : (m s k : ℕ) → m * W ≤ length ws → s < m → k < W → get_or (with_sets ws W F m) (s * W + k) 0 ≡ word_of (F s) k
  unfolding with_sets turns
  with_sets_word zero s k r h b = absurd (omega arith)
  with_sets_word (suc m) s k r h b =
      elim (ℕ_discrete s m) [
        | yes e ↦ rw e (with_set_word (with_sets ws W F m) W m (F m) k b (omega (arith, with_sets_length m, suc-mul m W)))
        | no g ↦ with_set_outside (with_sets ws W F m) W m (F m) (s * W + k) (λ i q e. g (slot_eq s m W k i b q e))
            ∙ with_sets_word m s k (omega (arith, suc-mul m W)) (omega (arith, g)) b
      ]

  -- the list is known by what its slots hold
  pub with_sets_is : (m : ℕ) (l : List ℕ) → m * W ≤ length ws → length l ≡ length ws → Words l
      → ((s j : ℕ) → s < m → j < W * 64 → held l W s j ≡ F s j)
      → ((i : ℕ) → m * W ≤ i → get_or l i 0 ≡ get_or ws i 0) → l ≡ with_sets ws W F m
  with_sets_is m l room e words holds stays =
      ext_get_or 0 l (with_sets ws W F m) (e ∙ sym (with_sets_length m)) (λ i h.
      elim (dec_le (m * W) i) [
        | yes q ↦ stays i q ∙ sym (with_sets_past m i q)
        | no q ↦ inside i (omega arith)
      ])
    where
      word : (s k : ℕ) → s < m → k < W → get_or l (s * W + k) 0 ≡ word_of (F s) k
      word s k h b =
          word_is (F s) k (get_or l (s * W + k) 0) (words (s * W + k))
          (λ i c. sym (held-digit l W s k i c) ∙ holds s (k * 64 + i) h (omega arith))

      inside : (i : ℕ) → i < m * W → get_or l i 0 ≡ get_or (with_sets ws W F m) i 0
      inside i h =
          let pos : 0 < W = elim (dec_le 1 W) [ yes q ↦ q | no q ↦ (let z : W ≡ 0 = omega arith in absurd (omega (arith, ap (λ (x : ℕ). m * x) z, mul-zero m))) ] in
          let s : i / W < m = (div-lt_iff_lt-mul pos).1 h in
          let k : i % W < W = mod-lt i pos in
          rw (← div-add-mod' i W) (word (i / W) (i % W) s k ∙ sym (with_sets_word m (i / W) (i % W) room s k))

-- one leaf more
pub leaf_turn : (ws l e r : List ℕ) (W : ℕ) (counts legs : List ℕ) (i x : ℕ) → l ≡ with_sets ws W (leaf_has counts legs) i
    → e ≡ with_set l W i (λ j. false) → x ≡ get_or counts i 0 → r ≡ with_set e W i (λ j. held e W i j || among legs (i * 32) x j)
    → r ≡ with_sets ws W (leaf_has counts legs) (i + 1)
leaf_turn ws l e r W counts legs i x h p q f =
    with_sets_next ws W (leaf_has counts legs) i l r h
    (refilled l e r W i legs (i * 32) x p f ∙ ap (λ (k : ℕ). with_set l W i (among legs (i * 32) k)) q)

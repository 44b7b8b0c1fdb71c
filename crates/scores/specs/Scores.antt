-- Scores of pairs by sizes in bits, which of two pairs comes first, and the least pair of a table with those before it in a list.
-- Assumes nothing.
use Rattle.std.specs.Prelude.{Bool, true, false, ◌||◌, cond, ◌≡◌, refl, List, ℕ, zero, suc, ◌+◌, ◌-◌, ◌*◌, ◌/◌, ◌%◌, ◌^◌, ◌≤◌, ◌<◌, eqb, ltb, get_or}
use Rattle.std.proofs.Common.{sym, ◌∙◌, ap, arith, eq-eqb, ne_eqb, lt-ltb, le-ltb}
use Rattle.spec.specs.Greedy.{Key, key_before}
use Rattle.laws.specs.Booleans.{or_intror}
use Rattle.cells.specs.Loop.{turns, turns_next}
use Rattle.live.specs.Common.{shares}
use Rattle.live.specs.Merged.{pair_bits}

-- 2 to the power b, and 0 above 40
unfoldable pub power : ℕ → ℕ
power b = cond (ltb b 41) (2 ^ b) 0

-- of the slots x and y, the lower first: the first and the second of their pair, where n₀ slots are the start's
abbrev pub first_of : ℕ → ℕ → ℕ → ℕ
first_of n₀ x y = cond (ltb y n₀) x y

abbrev pub second_of : ℕ → ℕ → ℕ → ℕ
second_of n₀ x y = cond (ltb y n₀) y x

-- the key of the pair of slots x and y, whose merged table has m bits
unfoldable pub key_at : List ℕ → ℕ → ℕ → ℕ → ℕ → Key
key_at sizes n₀ x y m =
    record {
      makes = power m;
      takes = power (get_or sizes x 0) + power (get_or sizes y 0);
      first = first_of n₀ x y;
      second = second_of n₀ x y;
    }

-- has one of two slots more than 40 bits
abbrev pub over_forty : List ℕ → ℕ → ℕ → Bool
over_forty sizes x y = ltb 40 (get_or sizes x 0) || ltb 40 (get_or sizes y 0)

-- The least pair of a table so far, as one number: 256 for none, 257 if a pair is too wide, and else 512 times the merged size bits and the
-- other slot.
abbrev pub code_of : ℕ → ℕ → ℕ
code_of m x = m * 512 + x

-- of the least pair of y so far and its pair with x, whose merged table has m bits, the one that comes first
abbrev pub lesser_of : List ℕ → ℕ → ℕ → ℕ → ℕ → ℕ → ℕ
lesser_of sizes n₀ y best x m =
    cond (eqb best 256 || key_before (key_at sizes n₀ x y m) (key_at sizes n₀ (best % 512) y (best / 512))) (code_of m x) best

-- the pair of y with x is considered too
unfoldable pub considered : List ℕ → ℕ → List ℕ → List ℕ → ℕ → ℕ → ℕ → ℕ → ℕ
considered ws W wt sizes n₀ y best x =
    cond (eqb best 257) best
    (cond (shares ws W x y)
    (cond (ltb 40 (pair_bits ws W wt x y) || over_forty sizes x y) 257
    (cond (eqb best 256 || key_before (key_at sizes n₀ x y (pair_bits ws W wt x y)) (key_at sizes n₀ (best % 512) y (best / 512)))
    (code_of (pair_bits ws W wt x y) x) best))
    best)

module _ (ws : List ℕ) (W : ℕ) (wt sizes : List ℕ) (n₀ y best x : ℕ) where
  abbrev bits : ℕ
  bits = pair_bits ws W wt x y

  -- what is left after the pair was found to count
  abbrev scored : Bool → Bool → Bool → ℕ
  scored over none before = cond over 257 (cond (none || before) (code_of bits x) best)

  pub consider_refused : best ≡ 257 → best ≡ considered ws W wt sizes n₀ y best x
  unfolding considered
  consider_refused e = rw (eq-eqb best 257 e)

  pub consider_apart : (best ≡ 257 → ⊥) → shares ws W x y ≡ false → best ≡ considered ws W wt sizes n₀ y best x
  unfolding considered
  consider_apart n s = rw (ne_eqb best 257 n, s)

  module _ (n : best ≡ 257 → ⊥) (s : shares ws W x y ≡ true) where
    to_scored : (over none before : Bool) → (ltb 40 bits || over_forty sizes x y) ≡ over → eqb best 256 ≡ none
        → key_before (key_at sizes n₀ x y bits) (key_at sizes n₀ (best % 512) y (best / 512)) ≡ before
        → scored over none before ≡ considered ws W wt sizes n₀ y best x
    unfolding considered
    to_scored over none before p q r = rw (ne_eqb best 257 n, s, ← p, ← q, ← r)

    -- the merged table, or one of the two, is too wide
    pub consider_over : 40 < bits → 257 ≡ considered ws W wt sizes n₀ y best x
    consider_over h = to_scored true _ _ (ap (λ (b : Bool). b || over_forty sizes x y) (lt-ltb 40 bits h)) refl refl

    pub consider_table : over_forty sizes x y ≡ true → 257 ≡ considered ws W wt sizes n₀ y best x
    consider_table h = to_scored true _ _ (or_intror (ltb 40 bits) (over_forty sizes x y) h) refl refl

    module _ (le : bits ≤ 40) (o : over_forty sizes x y ≡ false) where
      narrow : (ltb 40 bits || over_forty sizes x y) ≡ false
      narrow = ap (λ (b : Bool). b || over_forty sizes x y) (le-ltb 40 bits le) ∙ o

      -- the lesser of the two
      pub consider_lesser : lesser_of sizes n₀ y best x bits ≡ considered ws W wt sizes n₀ y best x
      consider_lesser = to_scored false _ _ narrow refl refl

      -- the first pair; a pair that comes before the least so far; and one that does not
      pub consider_first : best ≡ 256 → code_of bits x ≡ considered ws W wt sizes n₀ y best x
      consider_first e = to_scored false true _ narrow (eq-eqb best 256 e) refl

      pub consider_sooner : (best ≡ 256 → ⊥)
          → key_before (key_at sizes n₀ x y bits) (key_at sizes n₀ (best % 512) y (best / 512)) ≡ true
          → code_of bits x ≡ considered ws W wt sizes n₀ y best x
      consider_sooner f k = to_scored false false true narrow (ne_eqb best 256 f) k

      pub consider_later : (best ≡ 256 → ⊥)
          → key_before (key_at sizes n₀ x y bits) (key_at sizes n₀ (best % 512) y (best / 512)) ≡ false
          → best ≡ considered ws W wt sizes n₀ y best x
      consider_later f k = to_scored false false false narrow (ne_eqb best 256 f) k

-- the least pair of y with the first k slots of a list
unfoldable pub row_of : List ℕ → ℕ → List ℕ → List ℕ → ℕ → List ℕ → ℕ → ℕ → ℕ
row_of ws W wt sizes n₀ live k y = turns (λ i best. considered ws W wt sizes n₀ y best (get_or live i 0)) 256 k

-- ---- as the loop finds it ----

pub row_none : (ws : List ℕ) (W : ℕ) (wt sizes : List ℕ) (n₀ : ℕ) (live : List ℕ) (y : ℕ) → 256 ≡ row_of ws W wt sizes n₀ live 0 y
unfolding row_of turns
row_none ws W wt sizes n₀ live y = refl

module _ (ws : List ℕ) (W : ℕ) (wt sizes : List ℕ) (n₀ : ℕ) (live : List ℕ) (y : ℕ) where
  pub row_next : (k best b x : ℕ) → best ≡ row_of ws W wt sizes n₀ live k y → x ≡ get_or live k 0
      → b ≡ considered ws W wt sizes n₀ y best x → b ≡ row_of ws W wt sizes n₀ live (k + 1) y
  unfolding row_of
  row_next k best b x e ex eb = turns_next _ _ k e (eb ∙ ap (considered ws W wt sizes n₀ y best) ex)

  -- once a pair is too wide, it stays so
  sticks : (k d : ℕ) → row_of ws W wt sizes n₀ live k y ≡ 257 → row_of ws W wt sizes n₀ live (d + k) y ≡ 257
  unfolding row_of turns
  sticks k zero e = ap (λ (n : ℕ). row_of ws W wt sizes n₀ live n y) (let z : 0 + k ≡ k = omega arith in z) ∙ e
  sticks k (suc d) e =
      ap (λ (n : ℕ). row_of ws W wt sizes n₀ live n y) (let z : suc d + k ≡ suc (d + k) = omega arith in z)
      ∙ sym (consider_refused ws W wt sizes n₀ y (row_of ws W wt sizes n₀ live (d + k) y) (get_or live (d + k) 0) (sticks k d e)) ∙ sticks k d e

  pub row_sticks : (j k : ℕ) → j ≤ k → row_of ws W wt sizes n₀ live j y ≡ 257 → 257 ≡ row_of ws W wt sizes n₀ live k y
  row_sticks j k h e =
      sym (sticks j (k - j) e) ∙ ap (λ (n : ℕ). row_of ws W wt sizes n₀ live n y) (let z : (k - j) + j ≡ k = omega arith in z)

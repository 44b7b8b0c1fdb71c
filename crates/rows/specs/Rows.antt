-- The least pair of each live table, kept from turn to turn in a list by slot, and the least of all. Assumes nothing.
-- An entry of the list is 256 where the table has no pair with one before it, 257 where such a pair is too wide, 258 where it is yet to be
-- found, 259 for a table that is gone, and else 512 times the merged size bits and the other slot.
use Rattle.std.specs.Prelude.{Bool, true, false, not, ◌&&◌, ◌||◌, ◌≡◌, List, Option, None, Some, eqb, length, get_or}
use Rattle.std.proofs.Math.Bool.{cond}
use Rattle.std.proofs.Math.Path.{refl, ap}
use Rattle.std.proofs.Common.{sym, ◌∙◌, arith, length-set}
use Prim.Native.Nat.{ℕ, zero, suc, ◌+◌, ◌-◌, ◌≤◌, ◌/◌, ◌%◌}
use Rattle.std.proofs.Math.ListN.{set}
use borrow.Author.Tests.{eq-eqb, ne_eqb}
use Rattle.spec.specs.Greedy.{Key, key_before}
use Rattle.laws.specs.Booleans.{by_cases}
use Rattle.cells.specs.Loop.{turns, turns_next}
use Rattle.scores.specs.Scores.{key_at, row_of}
use Rattle.tables.specs.declared.choice.Choice.{Choice}
use Rattle.tables.specs.Lists.{choice_code}

-- does an entry stand: it was found, and its other table is not gone
abbrev pub stands : List ℕ → ℕ → Bool
stands rows r = not (eqb r 258) && not (eqb (get_or rows (r % 512) 0) 259)

module _ (ws : List ℕ) (W : ℕ) (wt sizes : List ℕ) (n₀ : ℕ) (live : List ℕ) where
  -- the list with the entry of the k-th live table, found anew where it does not stand
  unfoldable pub renewed : ℕ → List ℕ → List ℕ
  renewed k rows =
      cond (stands rows (get_or rows (get_or live k 0) 0)) rows (set rows (get_or live k 0) (row_of ws W wt sizes n₀ live k (get_or live k 0)))

  -- the same for the first m live tables
  unfoldable pub renewed_all : List ℕ → ℕ → List ℕ
  renewed_all rows m = turns renewed rows m

  module _ (k : ℕ) (rows : List ℕ) (y r : ℕ) (t : Bool) (ey : y ≡ get_or live k 0) (er : r ≡ get_or rows y 0) (et : t ≡ stands rows r) where
    tests : t ≡ stands rows (get_or rows (get_or live k 0) 0)
    tests = et ∙ ap (stands rows) (er ∙ ap (λ (i : ℕ). get_or rows i 0) ey)

    pub renewed_stands : t ≡ true → rows ≡ renewed k rows
    unfolding renewed
    renewed_stands e = rw (← tests, e)

    pub renewed_found : t ≡ false → (b : ℕ) (l : List ℕ) → b ≡ row_of ws W wt sizes n₀ live k y → l ≡ set rows y b → l ≡ renewed k rows
    unfolding renewed
    renewed_found e b l p q =
        q ∙ ap (set rows y) p ∙ ap (λ (i : ℕ). set rows i (row_of ws W wt sizes n₀ live k i)) ey
        ∙ ap (λ (b : Bool). cond b rows (set rows (get_or live k 0) (row_of ws W wt sizes n₀ live k (get_or live k 0)))) (sym e ∙ tests)

  -- the loop over the live tables
  pub renewed_none : (rows : List ℕ) → rows ≡ renewed_all rows 0
  unfolding renewed_all turns
  renewed_none rows = refl

  pub renewed_next : (rows : List ℕ) (k : ℕ) (l l' : List ℕ) → l ≡ renewed_all rows k → l' ≡ renewed k l → l' ≡ renewed_all rows (k + 1)
  unfolding renewed_all
  renewed_next rows k l l' e q = turns_next _ _ k e q

  pub renewed_length : (k : ℕ) (rows : List ℕ) → length (renewed k rows) ≡ length rows
  unfolding renewed
  renewed_length k rows =
      by_cases (stands rows (get_or rows (get_or live k 0) 0)) (λ e. rw e) (λ e. rw e (length-set rows (get_or live k 0) _))

  pub all_length : (rows : List ℕ) (m : ℕ) → length (renewed_all rows m) ≡ length rows
  unfolding renewed_all turns
  all_length rows zero = refl
  all_length rows (suc m) = renewed_length m (turns renewed rows m) ∙ all_length rows m

module _ (sizes : List ℕ) (n₀ : ℕ) (rows : List ℕ) where
  -- the key of the pair that an entry names
  abbrev pub entry_key : ℕ → Key
  entry_key y = key_at sizes n₀ (get_or rows y 0 % 512) y (get_or rows y 0 / 512)

  -- of the table whose pair is the least so far and y, the one whose pair comes first
  abbrev pub sooner_of : ℕ → ℕ → ℕ
  sooner_of best y = cond (eqb best 256 || key_before (entry_key y) (entry_key best)) y best

  -- the table whose pair is the least so far (256: none, 257: a pair is too wide), when that of y is looked at too
  unfoldable pub bettered : ℕ → ℕ → ℕ
  bettered best y =
      cond (eqb best 257) best
      (cond (eqb (get_or rows y 0) 257) 257
      (cond (eqb (get_or rows y 0) 256) best
      (cond (eqb best 256 || key_before (entry_key y) (entry_key best)) y best)))

  -- it is one of the two, or 257
  pub bettered_one : (P : ℕ → Type 0) (best y : ℕ) → P best → P y → P 257 → P (bettered best y)
  unfolding bettered
  bettered_one P best y p q r =
      by_cases (eqb best 257) (λ e. rw e p)
      (λ e. by_cases (eqb (get_or rows y 0) 257) (λ d. rw (e, d) r)
      (λ d. by_cases (eqb (get_or rows y 0) 256) (λ f. rw (e, d, f) p)
      (λ f. by_cases (eqb best 256 || key_before (entry_key y) (entry_key best)) (λ h. rw (e, d, f, h) q) (λ h. rw (e, d, f, h) p))))

  -- of the first m live tables
  unfoldable pub least_of : List ℕ → ℕ → ℕ
  least_of live m = turns (λ k best. bettered best (get_or live k 0)) 256 m

  module _ (best y : ℕ) where
    pub better_refused : best ≡ 257 → best ≡ bettered best y
    unfolding bettered
    better_refused e = rw (eq-eqb best 257 e)

    module _ (n : best ≡ 257 → ⊥) where
      pub better_over : get_or rows y 0 ≡ 257 → 257 ≡ bettered best y
      unfolding bettered
      better_over e = rw (ne_eqb best 257 n, eq-eqb (get_or rows y 0) 257 e)

      module _ (l : get_or rows y 0 ≡ 257 → ⊥) where
        pub better_none : get_or rows y 0 ≡ 256 → best ≡ bettered best y
        unfolding bettered
        better_none e = rw (ne_eqb best 257 n, ne_eqb (get_or rows y 0) 257 l, eq-eqb (get_or rows y 0) 256 e)

        module _ (f : get_or rows y 0 ≡ 256 → ⊥) where
          pub better_looked : sooner_of best y ≡ bettered best y
          unfolding bettered
          better_looked = rw (ne_eqb best 257 n, ne_eqb (get_or rows y 0) 257 l, ne_eqb (get_or rows y 0) 256 f)

          pub better_first : best ≡ 256 → y ≡ bettered best y
          unfolding bettered
          better_first e = rw (ne_eqb best 257 n, ne_eqb (get_or rows y 0) 257 l, ne_eqb (get_or rows y 0) 256 f, eq-eqb best 256 e)

          pub better_sooner : (best ≡ 256 → ⊥) → key_before (entry_key y) (entry_key best) ≡ true → y ≡ bettered best y
          unfolding bettered
          better_sooner g k = rw (ne_eqb best 257 n, ne_eqb (get_or rows y 0) 257 l, ne_eqb (get_or rows y 0) 256 f, ne_eqb best 256 g, k)

          pub better_later : (best ≡ 256 → ⊥) → key_before (entry_key y) (entry_key best) ≡ false → best ≡ bettered best y
          unfolding bettered
          better_later g k = rw (ne_eqb best 257 n, ne_eqb (get_or rows y 0) 257 l, ne_eqb (get_or rows y 0) 256 f, ne_eqb best 256 g, k)

-- ---- the least of all, as the loop finds it ----

module _ (sizes : List ℕ) (n₀ : ℕ) (rows live : List ℕ) where
  pub least_none : 256 ≡ least_of sizes n₀ rows live 0
  unfolding least_of turns
  least_none = refl

  pub least_next : (k best b y : ℕ) → best ≡ least_of sizes n₀ rows live k → y ≡ get_or live k 0 → b ≡ bettered sizes n₀ rows best y → b ≡ least_of sizes n₀ rows live (k + 1)
  unfolding least_of
  least_next k best b y e ey eb = turns_next _ _ k e (eb ∙ ap (bettered sizes n₀ rows best) ey)

  -- once a pair is too wide, it stays so
  sticks : (k d : ℕ) → least_of sizes n₀ rows live k ≡ 257 → least_of sizes n₀ rows live (d + k) ≡ 257
  unfolding least_of turns
  sticks k zero e = ap (least_of sizes n₀ rows live) (let z : 0 + k ≡ k = omega arith in z) ∙ e
  sticks k (suc d) e =
      ap (least_of sizes n₀ rows live) (let z : suc d + k ≡ suc (d + k) = omega arith in z)
      ∙ sym (better_refused sizes n₀ rows (least_of sizes n₀ rows live (d + k)) (get_or live (d + k) 0) (sticks k d e)) ∙ sticks k d e

  pub least_sticks : (j k : ℕ) → j ≤ k → least_of sizes n₀ rows live j ≡ 257 → 257 ≡ least_of sizes n₀ rows live k
  least_sticks j k h e = sym (sticks j (k - j) e) ∙ ap (least_of sizes n₀ rows live) (let z : (k - j) + j ≡ k = omega arith in z)

-- ---- choices ----

-- a choice is never that a pair is too wide
pub choice_apart : (c : Option Choice) → choice_code c ≡ 257 → ⊥
choice_apart None e = omega arith
choice_apart (Some c) e = c.apart 1 (omega arith) e

module _ (sizes : List ℕ) (n₀ : ℕ) (rows : List ℕ) (best : Option Choice) (y r : ℕ) (e : r ≡ get_or rows y 0) where
  pub takes_wide : r ≡ 257 → 257 ≡ bettered sizes n₀ rows (choice_code best) y
  takes_wide q = better_over sizes n₀ rows (choice_code best) y (choice_apart best) (sym e ∙ q)

  pub takes_none : r ≡ 256 → choice_code best ≡ bettered sizes n₀ rows (choice_code best) y
  takes_none q = better_none sizes n₀ rows (choice_code best) y (choice_apart best) (λ z. omega (arith, e, q)) (sym e ∙ q)

  pub takes_pair : (r ≡ 257 → ⊥) → (r ≡ 256 → ⊥) → sooner_of sizes n₀ rows (choice_code best) y ≡ bettered sizes n₀ rows (choice_code best) y
  takes_pair w n = better_looked sizes n₀ rows (choice_code best) y (choice_apart best) (λ z. w (e ∙ z)) (λ z. n (e ∙ z))

-- The walk over the splits of one mask, on tables of costs and work bits, and where those tables stand in lists of words. Definitions only.
-- Assumes nothing.
use Rattle.std.specs.Prelude.{Bool, ◌&&◌, cond, List, [], ◌∷◌, ◌≡◌, ℕ, zero, suc, ◌+◌, ◌-◌, ◌^◌, ◌≤◌, ◌<◌, eqb, ltb, get_or, drop, Option, None, Some}
use Rattle.std.specs.Int.Bits.{bit_and}
use Rattle.std.specs.Int.Count.{ones}
use Rattle.spec.specs.Improve.{over_limit}
use Rattle.laws.specs.Masks.{submasks}
use Rattle.subset.specs.declared.Choice.{Choice}
use Rattle.subset.specs.declared.Entry.{Entry}

-- 2^53
abbrev pub infinite : ℕ
infinite = 9007199254740992

-- a cost of the table, if it is below 2^53
unfoldable pub finite : ℕ → Option ℕ
finite cost = cond (ltb cost infinite) (Some cost) None

-- 2 to the power e if that is below `room`
unfoldable pub step_cost : ℕ → ℕ → Option ℕ
step_cost e room = cond (ltb (2 ^ e) room) (Some (2 ^ e)) None

-- ---- the walk ----

-- the least cost of each mask, and the work bits of the step that joins two masks' tables
module _ (best : ℕ → ℕ) (work : ℕ → ℕ → ℕ) where
  -- the split whose part is sub + low: the choice so far, or this one if it is strictly cheaper
  unfoldable pub considered : ℕ → ℕ → ℕ → Choice → Choice
  considered low rest sub c =
      let new = best (sub + low) + best (rest - sub) + 2 ^ work (sub + low) (rest - sub) in
      cond (ltb new c.cost) (record { cost = new; part = sub + low }) c

  abbrev pub scan_masks : ℕ → ℕ → Choice → List ℕ → Choice
  scan_masks low rest c [] = c
  scan_masks low rest c (sub ∷ l) = scan_masks low rest (considered low rest sub c) l

  -- the first cheapest split of the mask rest + low, of n bits, whose part holds low
  unfoldable pub cheapest_of : ℕ → ℕ → ℕ → Choice
  cheapest_of n low rest = scan_masks low rest (record { cost = infinite; part = 0 }) (drop 1 (submasks n rest))

  -- ---- one mask, of n in all, with the limit on its table's bits ----
  module _ (n : ℕ) (limit : Option ℕ) where
    -- is it passed over: it is not the full one, and its table is above the limit
    unfoldable pub passed_over : ℕ → Bool
    passed_over s = ltb (s + 1) n && over_limit (work s s) limit

    -- what is found for it: a single member costs nothing
    unfoldable pub entry_of : ℕ → Entry
    entry_of s =
        let rest = bit_and s (s - 1) in
        let c = cheapest_of n (s - rest) rest in
        let searched : Entry = record { cost = c.cost; part = c.part; tried = 2 ^ ones rest - 1 } in
        cond (eqb rest 0) (record { cost = 0; part = 0; tried = 0 })
        (cond (passed_over s) (record { cost = infinite; part = 0; tried = 0 }) searched)

    -- how many splits are tried for it
    unfoldable pub tried_of : ℕ → ℕ
    tried_of s =
        let rest = bit_and s (s - 1) in
        cond (eqb rest 0) 0 (cond (passed_over s) 0 (2 ^ ones rest - 1))

-- f 0 + f 1 + .. + f (n - 1)
unfoldable pub sum_below : (ℕ → ℕ) → ℕ → ℕ
sum_below f zero = 0
sum_below f (suc n) = sum_below f n + f n

-- the tables are filled below the mask `top`, and so many splits were tried
pub record Filled (best split : ℕ → ℕ) (work : ℕ → ℕ → ℕ) (n : ℕ) (limit : Option ℕ) (top tried : ℕ) : Type 0 where
  pub costs : (s : ℕ) → 1 ≤ s → s < top → best s ≡ (entry_of best work n limit s).cost
  pub parts : (s : ℕ) → 1 ≤ s → s < top → split s ≡ (entry_of best work n limit s).part
  pub count : tried ≡ sum_below (tried_of best work n limit) top

-- ---- the tables ----

abbrev pub best_at : List ℕ → ℕ → ℕ
best_at cost s = get_or cost s 0

abbrev pub split_at : List ℕ → ℕ → ℕ
split_at part s = get_or part s 0

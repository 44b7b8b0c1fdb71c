-- The best candidate as a loop finds it, from each index's weight, work and size. Assumes nothing.
use Rattle.std.specs.Prelude.{Bool, true, false, cond, ◌&&◌, ◌≡◌, List, ℕ, ◌+◌, ◌-◌, ◌*◌, ◌%◌, ◌^◌, ◌≤◌, ◌<◌, ltb, get_or, Option, None, Some}
use Rattle.std.proofs.Math.Bool.{and-false}
use Rattle.std.proofs.Common.{sym, ◌∙◌, ap, arith, mul-le-mul_right, pow_mono, lt-ltb}
use Rattle.spec.specs.Slicing.{Rank, rank_before}
use Rattle.cells.specs.Loop.{turns}
use Rattle.bits.specs.Bit.{one_shl}
use Rattle.slicing.specs.declared.ranks.Rank.{Rank as Found}

-- a rank as the loop keeps it, and back
abbrev pub rank_from : Found → Rank
rank_from f = record { cost = f.cost; touched_size = f.touched_size.0; index = f.index }

abbrev pub found : Rank → Found
found r = record { cost = r.cost; touched_size = record { 0 = r.touched_size }; index = r.index }

-- an index with its rank
abbrev pub ranked : Rank → Option Found
ranked r = Some (found r)

-- the better of a rank and the best so far
abbrev pub better : Rank → Option Found → Option Found
better r None = ranked r
better r (Some f) = cond (rank_before r (rank_from f)) (ranked r) (Some f)

module _ (candidate : ℕ → Bool) (rank : ℕ → Rank) where
  -- the best so far, when j is looked at too
  abbrev pub considered : Option Found → ℕ → Option Found
  considered b j = cond (candidate j) (better (rank j) b) b

  -- the best of the indices below m
  unfoldable pub best_of : ℕ → Option Found
  best_of m = turns (λ j b. considered b j) None m

-- a candidate, by the weights of unsliced non-outputs and the summed sizes of tables above the target
abbrev pub candidate_in : (sliceable sizes : List ℕ) → ℕ → Bool
candidate_in sliceable sizes j = ltb 0 (get_or sliceable j 0) && ltb 0 (get_or sizes j 0)

abbrev pub rank_in : ℕ → (sliceable touching sizes : List ℕ) → ℕ → Rank
rank_in total sliceable touching sizes j =
    record { cost = 2 ^ get_or sliceable j 0 * (total - get_or touching j 0) + get_or touching j 0; touched_size = get_or sizes j 0; index = j }

-- ---- one index ----

module _ (total : ℕ) (sliceable touching sizes : List ℕ) (b : Option Found) (j : ℕ) where
  abbrev pub next : Option Found
  next = considered (candidate_in sliceable sizes) (rank_in total sliceable touching sizes) b j

  -- no candidate
  pub weightless : (w : ℕ) → w ≡ get_or sliceable j 0 → w ≡ 0 → b ≡ next
  weightless w e z = let y : get_or sliceable j 0 ≡ 0 = sym e ∙ z in rw y

  pub untouched : (f : ℕ) → f ≡ get_or sizes j 0 → f ≡ 0 → b ≡ next
  untouched f e z = let y : get_or sizes j 0 ≡ 0 = sym e ∙ z in rw (y, and-false (ltb 0 (get_or sliceable j 0)))

  -- a candidate
  pub looked : (w f t a : ℕ) → w ≡ get_or sliceable j 0 → f ≡ get_or sizes j 0 → t ≡ get_or touching j 0 → 0 < w → 0 < f → a ≡ 2 ^ w * (total - t) + t
      → better (record { cost = a; touched_size = f; index = j }) b ≡ next
  looked w f t a ew ef et pw pf ea =
      let x : ltb 0 (get_or sliceable j 0) ≡ true = lt-ltb 0 (get_or sliceable j 0) (omega (arith, ew)) in
      let y : ltb 0 (get_or sizes j 0) ≡ true = lt-ltb 0 (get_or sizes j 0) (omega (arith, ef)) in
      rw (x, y, ea, ew, ef, et)

module _ (r : Rank) (b : Option Found) where
  pub first : b ≡ None → ranked r ≡ better r b
  first e = rw e

  module _ (o : Found) (t : Bool) (e : b ≡ Some o) (f : t ≡ rank_before r (rank_from o)) where
    pub replaced : t ≡ true → ranked r ≡ better r b
    replaced g = sym (ap (better r) e ∙ ap (λ (x : Bool). cond x (ranked r) (Some o)) (sym f ∙ g))

    pub stays : t ≡ false → Some o ≡ better r b
    stays g = sym (ap (better r) e ∙ ap (λ (x : Bool). cond x (ranked r) (Some o)) (sym f ∙ g))

-- ---- the cost fits a word ----

pub cost_fits : (w x : ℕ) → w ≤ 8 → x < 9007199254740992 → 1 * 2 ^ w % 2 ^ 64 * x ≤ 2305843009213693952
cost_fits w x h b =
    let m : 2 ^ w ≤ 2 ^ 8 = pow_mono h in
    rw (one_shl w (omega arith)) (omega (arith, mul-le-mul_right {m = 2 ^ w} {n = 2 ^ 8} x m))

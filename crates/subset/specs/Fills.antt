-- What is found for a mask hangs on smaller masks alone; so the tables are filled from the lowest mask up. Assumes nothing.
use Rattle.std.specs.Prelude.{List, [], ◌∷◌, ◌≡◌, refl, ℕ, ◌+◌, ◌-◌, ◌≤◌, ◌<◌, eqb, length, set, drop, Option}
use Rattle.std.proofs.Common.{sym, ap, ◌∙◌, add-one, arith, get_or-set_same, get_or-set_other, eqb-true}
use Rattle.std.proofs.Math.Path.{subst}
use Rattle.std.specs.Int.Bits.{bit_and, and_le_r}
use Rattle.std.specs.Int.Count.{ones}
use Rattle.std.proofs.Math.Pow.{pow_mono}
use Rattle.std.proofs.lemmas.Bool.{eqb-false}
use Rattle.laws.specs.Booleans.{by_cases}
use Rattle.laws.specs.Masks.{Down, Under, down_under, submasks_first, submasks_down}
use Rattle.masks.specs.Singles.{own_bits}
use Rattle.subset.specs.Walk.{
  infinite,
  considered,
  scan_masks,
  cheapest_of,
  passed_over,
  entry_of,
  tried_of,
  sum_below,
  Filled,
  best_at,
  split_at,
}
use Rattle.subset.specs.Entries.{few_ones}
use Rattle.subset.specs.declared.Choice.{Choice}
use Rattle.subset.specs.declared.Entry.{Entry}

-- ---- two tables that agree below s have the same entry at s ----

module _ (B C : ℕ → ℕ) (work : ℕ → ℕ → ℕ) (s : ℕ) (agree : (l : ℕ) → l < s → B l ≡ C l) where
  considered_same : (low rest sub : ℕ) (c : Choice) → sub + low < s → rest - sub < s → considered B work low rest sub c ≡ considered C work low rest sub c
  unfolding considered
  considered_same low rest sub c h k = rw (agree (sub + low) h, agree (rest - sub) k)

  scan_same : (low rest : ℕ) → 1 ≤ low → rest + low ≤ s → (c : Choice) (l : List ℕ) → Under rest l
      → scan_masks B work low rest c l ≡ scan_masks C work low rest c l
  scan_same low rest h k c [] u = refl
  scan_same low rest h k c (sub ∷ l) u =
      ap (λ c. scan_masks B work low rest c l) (considered_same low rest sub c (omega (arith, u.0)) (omega arith))
      ∙ scan_same low rest h k (considered C work low rest sub c) l u.1

  cheapest_same : (n low rest : ℕ) → 1 ≤ low → rest + low ≤ s → rest < n → cheapest_of B work n low rest ≡ cheapest_of C work n low rest
  unfolding cheapest_of
  cheapest_same n low rest h k b =
      let (l, e) = submasks_first n rest (omega (arith, own_bits n)) in
      let d : Down rest (rest ∷ l) = subst (Down rest) e (submasks_down n rest) in
      subst (λ x. scan_masks B work low rest (record { cost = infinite; part = 0 }) (drop 1 x) ≡ scan_masks C work low rest (record { cost = infinite; part = 0 }) (drop 1 x))
      (sym e) (scan_same low rest h k (record { cost = infinite; part = 0 }) l (down_under rest rest l d))

  pub entry_same : (n : ℕ) (limit : Option ℕ) → 1 ≤ s → s < n → entry_of B work n limit s ≡ entry_of C work n limit s
  unfolding entry_of passed_over
  entry_same n limit a b =
      let le : bit_and s (s - 1) ≤ s - 1 = and_le_r s (s - 1) in
      rw (cheapest_same n (s - bit_and s (s - 1)) (bit_and s (s - 1)) (omega arith) (omega arith) (omega arith))

-- ---- counts ----

pub sum_next : (f : ℕ → ℕ) (n : ℕ) → sum_below f (n + 1) ≡ sum_below f n + f n
unfolding sum_below
sum_next f n = ap (sum_below f) (add-one n)

module _ (best : ℕ → ℕ) (work : ℕ → ℕ → ℕ) (n : ℕ) (limit : Option ℕ) where
  pub entry_tried : (s : ℕ) → (entry_of best work n limit s).tried ≡ tried_of best work n limit s
  unfolding entry_of tried_of
  entry_tried s =
      by_cases (eqb (bit_and s (s - 1)) 0)
      (λ e. rw e)
      (λ e. by_cases (passed_over best work n limit s) (λ q. rw (e, q)) (λ q. rw (e, q)))

  few_tried : (s : ℕ) → s < 4096 → tried_of best work n limit s ≤ 4096
  unfolding tried_of
  few_tried s h =
      let few : ones (bit_and s (s - 1)) ≤ 12 = few_ones (bit_and s (s - 1)) (omega (arith, and_le_r s (s - 1))) in
      by_cases (eqb (bit_and s (s - 1)) 0)
      (λ e. rw e (omega arith))
      (λ e. by_cases (passed_over best work n limit s) (λ q. rw (e, q) (omega arith)) (λ q. rw (e, q) (omega (arith, pow_mono few))))

  pub found_few : (s : ℕ) (e : Entry) → e ≡ entry_of best work n limit s → s < 4096 → e.tried ≤ 4096
  found_few s e h b = omega (arith, ap (λ (x : Entry). x.tried) h, entry_tried s, few_tried s b)

-- the masks' counts do not hang on the table of costs
tried_same : (B C : ℕ → ℕ) (work : ℕ → ℕ → ℕ) (n : ℕ) (limit : Option ℕ) → tried_of B work n limit ≡ tried_of C work n limit
unfolding tried_of passed_over
tried_same B C work n limit = refl

-- ---- filling ----

pub fill_start : (B S : ℕ → ℕ) (work : ℕ → ℕ → ℕ) (n : ℕ) (limit : Option ℕ) → Filled B S work n limit 1 0
unfolding sum_below tried_of
fill_start B S work n limit =
    record { costs = λ s a b. absurd (omega arith); parts = λ s a b. absurd (omega arith); count = refl }

-- one mask more: the new tables differ from the old at s alone
module _ (B S B' S' : ℕ → ℕ) (work : ℕ → ℕ → ℕ) (n : ℕ) (limit : Option ℕ) (s tried : ℕ) (e : Entry) (some : 1 ≤ s) (less : s < n) (same : (l : ℕ) → l < s → B' l ≡ B l)
    (parted : (l : ℕ) → l < s → S' l ≡ S l) (found : e ≡ entry_of B work n limit s)
  where
    at : (i : ℕ) → 1 ≤ i → i ≤ s → entry_of B work n limit i ≡ entry_of B' work n limit i
    at i a b = entry_same B B' work i (λ l h. sym (same l (omega arith))) n limit a (omega arith)

    pub fill_step : B' s ≡ e.cost → S' s ≡ e.part → Filled B S work n limit s tried → Filled B' S' work n limit (s + 1) (tried + e.tried)
    fill_step h_b h_s f =
        record {
          costs = λ i a c.
              by_cases (eqb i s)
              (λ q. let z : i ≡ s = eqb-true i s q in
              subst (λ x. B' x ≡ (entry_of B' work n limit x).cost) (sym z) (h_b ∙ ap (λ (x : Entry). x.cost) (found ∙ at s some (omega arith))))
              (λ q. let z : i ≡ s → ⊥ = eqb-false i s q in
              same i (omega (arith, z)) ∙ f.costs i a (omega (arith, z)) ∙ ap (λ (x : Entry). x.cost) (at i a (omega arith)));
          parts = λ i a c.
              by_cases (eqb i s)
              (λ q. let z : i ≡ s = eqb-true i s q in
              subst (λ x. S' x ≡ (entry_of B' work n limit x).part) (sym z) (h_s ∙ ap (λ (x : Entry). x.part) (found ∙ at s some (omega arith))))
              (λ q. let z : i ≡ s → ⊥ = eqb-false i s q in
              parted i (omega (arith, z)) ∙ f.parts i a (omega (arith, z)) ∙ ap (λ (x : Entry). x.part) (at i a (omega arith)));
          count =
              omega (
                arith,
                f.count,
                ap (λ (x : Entry). x.tried) found,
                entry_tried B work n limit s,
                sum_next (tried_of B work n limit) s,
                ap (λ g. sum_below g (s + 1)) (tried_same B B' work n limit),
              );
        }

-- ---- in lists of words ----

module _ (cost part : List ℕ) (work : ℕ → ℕ → ℕ) (n : ℕ) (limit : Option ℕ) (s tried : ℕ) (e : Entry)
    (long : n ≤ length cost) (long_part : n ≤ length part) (some : 1 ≤ s) (less : s < n)
  where
    pub fill_next : e ≡ entry_of (best_at cost) work n limit s → Filled (best_at cost) (split_at part) work n limit s tried
        → Filled (best_at (set cost s e.cost)) (split_at (set part s e.part)) work n limit (s + 1) (tried + e.tried)
    fill_next h f =
        fill_step (best_at cost) (split_at part) (best_at (set cost s e.cost)) (split_at (set part s e.part)) work n limit s tried e some less
        (λ l b. get_or-set_other cost s l e.cost 0 (λ q. omega arith))
        (λ l b. get_or-set_other part s l e.part 0 (λ q. omega arith))
        h (get_or-set_same cost s e.cost 0 (omega arith)) (get_or-set_same part s e.part 0 (omega arith)) f

pub fill_end : (B S : ℕ → ℕ) (work : ℕ → ℕ → ℕ) (n : ℕ) (limit : Option ℕ) (s tried : ℕ) → s ≡ n → Filled B S work n limit s tried → Filled B S work n limit n tried
fill_end B S work n limit s tried e f = subst (λ x. Filled B S work n limit x tried) e f

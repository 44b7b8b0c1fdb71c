-- The loop over the sub-masks of one mask: its start, a turn, and its end. Assumes nothing.
use Rattle.std.specs.Prelude.{List, [], ◌∷◌, ◌≡◌, ltb, drop}
use Rattle.std.proofs.Common.{sym, ◌∙◌, arith}
use Rattle.std.proofs.Math.Path.{ap, subst}
use Prim.Native.Nat.{ℕ, ◌+◌, ◌-◌, ◌^◌, ◌≤◌, ◌<◌}
use Rattle.std.specs.Int.Bits.{bit_and}
use borrow.Author.Tests.{ltb-true}
use Rattle.laws.specs.Booleans.{by_cases}
use Rattle.laws.specs.Masks.{Down, submasks_first, submasks_down}
use Rattle.masks.specs.Singles.{own_bits}
use Rattle.subset.specs.Walk.{infinite, considered, scan_masks, cheapest_of}
use Rattle.subset.specs.declared.Choice.{Choice}

module _ (best : ℕ → ℕ) (work : ℕ → ℕ → ℕ) (n low rest : ℕ) where
  -- no choice costs more than the one before it
  pub no_costlier : (sub : ℕ) (c d : Choice) → d ≡ considered best work low rest sub c → d.cost ≤ c.cost
  unfolding considered
  no_costlier sub c d e =
      let new : ℕ = best (sub + low) + best (rest - sub) + 2 ^ work (sub + low) (rest - sub) in
      by_cases (ltb new c.cost)
      (λ q. let z : d.cost ≡ new = ap (λ (x : Choice). x.cost) (rw q at e) in omega (arith, ltb-true new c.cost q))
      (λ q. let z : d.cost ≡ c.cost = ap (λ (x : Choice). x.cost) (rw q at e) in omega arith)

  -- the choice c at the sub-mask sub: the masks still to come lead from c to the answer
  pub record Walking (c : Choice) (sub : ℕ) : Type 0 where
    pub below : c.cost ≤ infinite
    pub left : List ℕ
    pub down : Down rest (sub ∷ left)
    pub leads : scan_masks best work low rest c left ≡ cheapest_of best work n low rest

  pub walk_start : rest < n → Walking (record { cost = infinite; part = 0 }) rest
  unfolding cheapest_of
  walk_start h =
      let (l, e) = submasks_first n rest (omega (arith, own_bits n)) in
      record {
        below = omega arith;
        left = l;
        down = subst (Down rest) e (submasks_down n rest);
        leads = ap (λ l. scan_masks best work low rest (record { cost = infinite; part = 0 }) (drop 1 l)) (sym e);
      }

  pub walk_step : (c d : Choice) (sub : ℕ) → Walking c sub → (sub ≡ 0 → ⊥) → d ≡ considered best work low rest (bit_and (sub - 1) rest) c
      → Walking d (bit_and (sub - 1) rest)
  walk_step c d sub w h q = go w.left w.down w.leads
    where
      go : (l : List ℕ) → Down rest (sub ∷ l) → scan_masks best work low rest c l ≡ cheapest_of best work n low rest → Walking d (bit_and (sub - 1) rest)
      go [] y e = absurd (h y)
      go (x ∷ l) y e =
          record {
            below = omega (arith, w.below, no_costlier (bit_and (sub - 1) rest) c d q);
            left = l;
            down = subst (λ s. Down rest (s ∷ l)) y.1 y.2;
            leads = ap (λ f. scan_masks best work low rest f l) q ∙ ap (λ s. scan_masks best work low rest (considered best work low rest s c) l) (sym y.1) ∙ e;
          }

  pub walk_end : (c : Choice) (sub : ℕ) → Walking c sub → sub ≡ 0 → c ≡ cheapest_of best work n low rest
  walk_end c sub w z = go w.left w.down w.leads
    where
      go : (l : List ℕ) → Down rest (sub ∷ l) → scan_masks best work low rest c l ≡ cheapest_of best work n low rest → c ≡ cheapest_of best work n low rest
      go [] d e = e
      go (x ∷ l) d e = absurd (omega (arith, d.0))

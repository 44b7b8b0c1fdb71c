-- A visit and the pricing after it: the price list of the tree that then stands, whose total is not beyond. Assumes nothing.
use Rattle.std.specs.Prelude.{Bool, false, List, ◌≡◌, ℕ, ◌+◌, ◌-◌, ◌^◌, ◌≤◌, ◌<◌, Option}
use Rattle.std.proofs.Common.{sym, ap, subst, arith, ◌∙◌}
use Rattle.spec.specs.Network.{Network, leaf_count}
use Rattle.spec.specs.Layout.{network_of}
use Rattle.spec.specs.Tree.{Tree, pairs_of, ValidTree}
use Rattle.spec.specs.Price.{listing, work}
use Rattle.spec.specs.Calls.{flag_at, wrong_tree, total_is_beyond, dangling}
use Rattle.laws.specs.Arrays.{valid_once}
use Rattle.laws.specs.TreePrices.{total_below}
use Rattle.laws.specs.ImprovedTotal.{visit_lower}
use Rattle.laws.specs.ImprovedWork.{listing_work, not_beyond, beyond_not, no_dangling}
use Rattle.network.specs.Lists.{Holds}
use Rattle.network.specs.Views.{net_in, in_facts, in_leaves}
use Rattle.network.specs.Codes.{Facts}
use Rattle.network.specs.Layouts.{layout_leaf_count, layout_index_count, layout_weight}
use Rattle.network.specs.declared.accepted.Accepted.{Accepted}
use Rattle.reprice.specs.Held.{tree_of, PriceHeld, Standing}
use Rattle.reprice.specs.Laws.{right_valid}
use Rattle.reconf.specs.Node.{Visitable}
use Rattle.reconf.specs.Visits.{Reconfs, Visits}

-- what a visit asks is there
pub visitable : {m n o : ℕ} {weights counts rows outputs : List ℕ} (flags kids sets sizes works : List ℕ) → Facts m n o weights counts rows outputs
    → Standing (network_of m n o weights counts rows outputs) (flag_at flags) kids sets sizes works
    → Visitable (network_of m n o weights counts rows outputs) n weights flags kids sets works
visitable {m} {n} {o} {weights} {counts} {rows} {outputs} flags kids sets sizes works f s =
    record {
      sizes = sizes;
      leaves = layout_leaf_count m n o weights counts rows outputs;
      accepted = f.accepted;
      weighs = λ j b. sym (layout_weight m n o weights counts rows outputs j (omega (arith, layout_index_count m n o weights counts rows outputs)));
      right = s.right;
      prices = s.prices;
      total = s.total;
    }

-- for an accepted network, and its n leaves
pub visitable_in : (a : Accepted) → Holds a.weights.now a.leg_counts.now a.legs.now a.outputs.now → (n : ℕ) → n ≡ leaf_count (net_in a)
    → (flags kids sets sizes works : List ℕ) → Standing (net_in a) (flag_at flags) kids sets sizes works
    → Visitable (net_in a) n a.weights.now flags kids sets works
visitable_in a h n e flags kids sets sizes works s =
    subst (λ y. Visitable (net_in a) y a.weights.now flags kids sets works) (sym (in_leaves a) ∙ sym e) (visitable flags kids sets sizes works (in_facts a h) s)

-- for the leaves as they are counted
pub right_n : (m n o : ℕ) (weights counts rows outputs kids : List ℕ) → wrong_tree (leaf_count (network_of m n o weights counts rows outputs)) kids ≡ false
    → wrong_tree n kids ≡ false
right_n m n o weights counts rows outputs kids e = subst (λ y. wrong_tree y kids ≡ false) (layout_leaf_count m n o weights counts rows outputs) e

-- there is a leaf
pub some_leaf : (m n o : ℕ) (weights counts rows outputs : List ℕ) (v : ℕ) → v < n + (n - 1) → 1 ≤ leaf_count (network_of m n o weights counts rows outputs)
some_leaf m n o weights counts rows outputs v h = omega (arith, layout_leaf_count m n o weights counts rows outputs)

module _ {N : Network} {flag : ℕ → Bool} {k : ℕ} {limit : Option ℕ} {v : ℕ} {kids₀ kids : List ℕ} {rebuilt tried : ℕ}
    (r : Reconfs N flag k limit v kids₀ kids rebuilt tried)
  where
    -- nothing is rebuilt
    pub visits_same : {sets sizes works : List ℕ} → rebuilt ≡ 0 → Standing N flag kids₀ sets sizes works → Visits N flag k limit v kids₀ kids sets sizes works rebuilt tried
    visits_same {sets} {sizes} {works} z s =
        record {
          tree = r.tree;
          is_rebuilt = r.is_rebuilt;
          is_tried = r.is_tried;
          standing = subst (λ l. Standing N flag l sets sizes works) (sym (r.same z)) s;
        }

    -- the total is not beyond again
    still_exact : 1 ≤ leaf_count N → wrong_tree (leaf_count N) kids₀ ≡ false → total_is_beyond N flag (pairs_of kids₀) ≡ false → dangling N ≡ false
        → total_is_beyond N flag (pairs_of kids) ≡ false
    still_exact one right total shared =
        let t : Tree = tree_of (leaf_count N) kids₀ in
        let d : ValidTree (leaf_count N) (pairs_of kids₀) t = right_valid (leaf_count N) kids₀ one right in
        let e : ValidTree (leaf_count N) (pairs_of kids) (tree_of (leaf_count N) kids) = right_valid (leaf_count N) kids one r.right in
        let small : total_below N flag t < 2 ^ 53 = omega (arith, not_beyond (work (listing N flag (pairs_of kids₀))) total, listing_work N flag (pairs_of kids₀) t d) in
        beyond_not (work (listing N flag (pairs_of kids)))
        (omega (
          arith,
          listing_work N flag (pairs_of kids) (tree_of (leaf_count N) kids) e,
          ap (total_below N flag) r.tree,
          (visit_lower N flag (no_dangling N shared) k limit v t (valid_once (leaf_count N) (pairs_of kids₀) t d) small).less,
        ))

    pub visits_again : {sets₀ sizes₀ works₀ sets sizes works : List ℕ} → 1 ≤ leaf_count N → dangling N ≡ false → Standing N flag kids₀ sets₀ sizes₀ works₀
        → PriceHeld N flag kids sets sizes works → Visits N flag k limit v kids₀ kids sets sizes works rebuilt tried
    visits_again one shared s p =
        record {
          tree = r.tree;
          is_rebuilt = r.is_rebuilt;
          is_tried = r.is_tried;
          standing = record { right = r.right; prices = p; total = still_exact one s.right s.total shared };
        }

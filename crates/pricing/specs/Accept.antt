-- What pricing asks is there where the network is accepted and the tree is a tree of it. Assumes nothing.
use Rattle.std.specs.Prelude.{false, ◌≡◌, List, ℕ, ◌*◌, ◌≤◌, length}
use Rattle.std.proofs.Common.{◌∙◌, subst, arith}
use Rattle.spec.specs.Network.{leaf_count, index_count}
use Rattle.spec.specs.Tree.{step_order}
use Rattle.spec.specs.Calls.{wrong_tree, node_places, step_places}
use Rattle.walk.specs.Wrong.{not_wrong}
use Rattle.walk.specs.declared.valid.Tree.{Tree}
use Rattle.network.specs.Lists.{Holds}
use Rattle.network.specs.Views.{net_in, in_facts, in_rows, in_leaves, in_indices}
use Rattle.network.specs.declared.accepted.Accepted.{Accepted}
use Rattle.nodesets.specs.Passes.{nodes}
use Rattle.nodesets.specs.Steps.{Steps}
use Rattle.nodesets.specs.Lists.{Ordered, ordered_steps}
use Rattle.pricing.specs.declared.list.PriceList.{PriceList}
use Rattle.pricing.specs.Lists.{HasRoom}
use Rattle.pricing.specs.Promise.{Priceable}
use Rattle.pricing.specs.Final.{places}

module _ (a : Accepted) (h : Holds a.weights.now a.leg_counts.now a.legs.now a.outputs.now) (W n : ℕ) (kids order : List ℕ) (narrow : W ≤ 16)
    (fits : index_count (net_in a) ≤ W * 64) (leaves : n ≡ leaf_count (net_in a)) (right : wrong_tree n kids ≡ false) (steps : order ≡ step_order kids n) where
  ordered : Ordered (length a.leg_counts.now) kids order
  ordered =
      let o : Ordered n kids order = record { is_valid = not_wrong n kids right; in_order = steps } in
      subst (λ (k : ℕ). Ordered k kids order) (leaves ∙ in_leaves a) o

  pub accepted_priceable :
      Priceable W (length a.weights.now) (length a.leg_counts.now) (length a.outputs.now) a.weights.now a.leg_counts.now a.legs.now a.outputs.now kids order
  accepted_priceable =
      let f = in_facts a h in
      record {
        narrow = narrow;
        fits = omega (arith, in_indices a, fits);
        few = omega (arith, f.few_leaves);
        few_outputs = omega (arith, f.few_outputs);
        weight_places = omega arith;
        row_places = in_rows a h;
        accepted = f.accepted;
        ordered = ordered;
      }

  pub accepted_places : node_places (net_in a) ≡ nodes (length a.leg_counts.now) kids
  accepted_places = places accepted_priceable

  pub accepted_room : {p : PriceList} → HasRoom W (node_places (net_in a)) p → HasRoom W (nodes (length a.leg_counts.now) kids) p
  accepted_room {p} r = subst (λ (k : ℕ). HasRoom W k p) accepted_places r

  pub accepted_outside : {len : ℕ} → node_places (net_in a) * W ≤ len → nodes (length a.leg_counts.now) kids * W ≤ len
  accepted_outside {len} r = subst (λ (k : ℕ). k * W ≤ len) accepted_places r

  pub accepted_steps : Steps (length a.leg_counts.now) kids order
  accepted_steps = ordered_steps ordered

  pub accepted_lines : {len : ℕ} → step_places (net_in a) * 5 ≤ len → length order * 5 ≤ len
  accepted_lines {len} r =
      let e : step_places (net_in a) ≡ length order = omega (arith, accepted_steps.steps, in_leaves a) in
      subst (λ (k : ℕ). k * 5 ≤ len) e r

-- what pricing goes by, where a network, a tree of it and a price list are lent
pub record Ready (a : Accepted) (W : ℕ) (kids order : List ℕ) (p : PriceList) : Type 0 where
  pub narrow : W ≤ 16
  pub priceable : Priceable W (length a.weights.now) (length a.leg_counts.now) (length a.outputs.now) a.weights.now a.leg_counts.now a.legs.now a.outputs.now kids order
  pub room : HasRoom W (nodes (length a.leg_counts.now) kids) p
  pub steps : Steps (length a.leg_counts.now) kids order

module _ (a : Accepted) (t : Tree) (M W : ℕ) {order : List ℕ} (width : (W * 64 ≤ M) × (M ≤ 1024)) (fits : index_count (net_in a) ≤ W * 64)
    (leaves : t.leaves ≡ leaf_count (net_in a)) (steps : order ≡ step_order t.kids.now t.leaves) where
  thin : W ≤ 16
  thin = omega (arith, width)

  pub ready : {p : PriceList} → HasRoom W (node_places (net_in a)) p → Ready a W t.kids.now order p
  ready {p} room =
      record {
        narrow = thin;
        priceable = accepted_priceable a a.holds W t.leaves t.kids.now order thin fits leaves t.valid steps;
        room = accepted_room a a.holds W t.leaves t.kids.now order thin fits leaves t.valid steps room;
        steps = accepted_steps a a.holds W t.leaves t.kids.now order thin fits leaves t.valid steps;
      }

  pub ready_outside : {len : ℕ} → node_places (net_in a) * W ≤ len → nodes (length a.leg_counts.now) t.kids.now * W ≤ len
  ready_outside r = accepted_outside a a.holds W t.leaves t.kids.now order thin fits leaves t.valid steps r

  pub ready_lines : {len : ℕ} → step_places (net_in a) * 5 ≤ len → length order * 5 ≤ len
  ready_lines r = accepted_lines a a.holds W t.leaves t.kids.now order thin fits leaves t.valid steps r

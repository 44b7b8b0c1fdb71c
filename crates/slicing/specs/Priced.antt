-- After pricing the lists have what the choice asks. Assumes nothing.
use Rattle.std.specs.Prelude.{◌≡◌, refl, List, ℕ, ◌+◌, ◌*◌, ◌≤◌, ◌<◌, length, Option}
use Rattle.std.proofs.Common.{sym, ◌∙◌, ap, arith}
use Rattle.spec.specs.Lists.{memb, range, sum_of}
use Rattle.spec.specs.Layout.{firsts, network_of}
use Rattle.spec.specs.Network.{Network, leaf_count, index_count}
use Rattle.spec.specs.Tree.{pairs_of, step_order}
use Rattle.spec.specs.Price.{list_at, listing, work, up_to, widest, size_at, work_at, price_of}
use Rattle.spec.specs.declared.Total.{Total}
use Rattle.spec.specs.declared.Prices.{Prices}
use Rattle.spec.specs.Calls.{flag_at, node_places}
use Rattle.cells.specs.Cells.{over_length}
use Rattle.walk.specs.declared.valid.Tree.{Tree}
use Rattle.slots.specs.Slots.{held}
use Rattle.network.specs.Views.{net_in, in_facts, in_leaves, in_indices}
use Rattle.network.specs.declared.accepted.Accepted.{Accepted}
use Rattle.nodesets.specs.Passes.{nodes}
use Rattle.nodesets.specs.Steps.{Steps}
use Rattle.nodesets.specs.Sets.{held-with_sets, with_sets_length}
use Rattle.nodesets.specs.Lists.{ordered_steps}
use Rattle.nodebits.specs.Stepped.{over_front}
use Rattle.pricing.specs.Answers.{widest_in}
use Rattle.pricing.specs.Sums.{work_sum, slice_share}
use Rattle.pricing.specs.Promise.{Priceable, Room, Filled, Pricing}
use Rattle.pricing.specs.Accept.{accepted_priceable, accepted_steps, accepted_outside}
use Rattle.pricing.specs.Final.{leaf_count_lem, places, weights_light, price_answer}
use Rattle.cost.specs.Back.{exact_of}
use Rattle.slicing.specs.Promise.{Rankable, PricedTree, node_sums}
use Rattle.slicing.specs.Turns.{exact_total}

-- an accepted network, its tree and the tree's step order: what a turn asks is there
module _ (a : Accepted) (tree : Tree) (order : List ℕ) (leaves : tree.leaves ≡ leaf_count (net_in a)) (in_order : order ≡ step_order tree.kids.now tree.leaves) where
  pub fits : index_count (net_in a) ≤ 4 * 64
  fits = omega (arith, in_indices a, (in_facts a a.holds).few_indices)

  pub turn_priceable :
      Priceable 4 (length a.weights.now) (length a.leg_counts.now) (length a.outputs.now) a.weights.now a.leg_counts.now a.legs.now a.outputs.now tree.kids.now order
  turn_priceable = accepted_priceable a a.holds 4 tree.leaves tree.kids.now order (omega arith) fits leaves tree.valid in_order

  steps : Steps (length a.leg_counts.now) tree.kids.now order
  steps = accepted_steps a a.holds 4 tree.leaves tree.kids.now order (omega arith) fits leaves tree.valid in_order

  few : nodes (length a.leg_counts.now) tree.kids.now ≤ 255
  few = omega (arith, places turn_priceable, in_leaves a, (in_facts a a.holds).few_leaves)

  pub turn_nodes : node_places (net_in a) ≤ 255
  turn_nodes = omega (arith, places turn_priceable, few)

  pub turn_room : (outside : ℕ) → node_places (net_in a) * 4 ≤ outside
      → Room 4 (length a.leg_counts.now) tree.kids.now order outside 1024 256 256 640
  turn_room outside room =
      record {
        for_outside = accepted_outside a a.holds 4 tree.leaves tree.kids.now order (omega arith) fits leaves tree.valid in_order room;
        for_sets = omega (arith, few);
        for_sizes = omega (arith, few);
        for_works = omega (arith, few);
        for_steps = omega (arith, steps.steps, in_leaves a, (in_facts a a.holds).few_leaves);
      }

-- the price list of a turn's tree
module _ {W m n o : ℕ} {weights counts rows outputs kids order : List ℕ} (p : Priceable W m n o weights counts rows outputs kids order) (flags : List ℕ)
    {sets₀ sizes₀ works₀ sets sizes works : List ℕ}
    (f : Filled W (network_of m n o weights counts rows outputs) (flag_at flags) (pairs_of kids) sets₀ sizes₀ works₀ sets sizes works)
    {outside lines : ℕ} (room : Room W n kids order outside (length sets₀) (length sizes₀) (length works₀) lines) where
  abbrev N : Network
  N = network_of m n o weights counts rows outputs

  -- the numbers of the nodes are in the lists
  nodes_are : n + length order ≡ nodes n kids
  nodes_are = omega (arith, (ordered_steps p.ordered).steps, (ordered_steps p.ordered).numbers)

  pub sizes_long : n + length order ≤ length sizes
  sizes_long = omega (arith, nodes_are, room.for_sizes, ap length f.sizes_are ∙ over_length sizes₀ _)

  pub works_long : n + length order ≤ length works
  works_long = omega (arith, nodes_are, room.for_works, ap length f.works_are ∙ over_length works₀ _)

  pub priced_tree : PricedTree W N n (flag_at flags) kids order sets sizes works
  priced_tree =
      record {
        leaf_count_lem = leaf_count_lem p;
        ordered = p.ordered;
        holds = λ v j h b. ap (λ (l : List ℕ). held l W v j) f.sets_are ∙ held-with_sets sets₀ W (λ v j. memb j (list_at N (pairs_of kids) v)) (node_places N) v j (rw (places p) room.for_sets) (omega (arith, places p)) b;
        sizes_are = λ v h. over_front sizes₀ sizes (size_at N (flag_at flags) (pairs_of kids)) (node_places N) (omega (arith, places p, room.for_sizes)) f.sizes_are v (omega (arith, places p));
        works_are = λ v h. over_front works₀ works (work_at N (flag_at flags) (pairs_of kids)) (node_places N) (omega (arith, places p, room.for_works)) f.works_are v (omega (arith, places p));
      }

  module _ (t : Total) (w : Option ℕ) (et : t ≡ up_to (work_sum works n (length order))) (ew : w ≡ widest_in (firsts (n + length order) sizes)) where
    answer : ◌≡◌ {A = Prices} (record { total = t; widest = w; slice_bits = sum_of (slice_share weights flags) (range m) }) (price_of N (flag_at flags) (pairs_of kids))
    answer =
        price_answer p flags room.for_sizes room.for_works f t w _ et (ew ∙ ap (λ (x : ℕ). widest_in (firsts x sizes)) nodes_are) refl

    pub widest_is : w ≡ widest N (flag_at flags) (listing N (flag_at flags) (pairs_of kids))
    widest_is = ap (λ (x : Prices). x.widest) answer

    pub total_handed : t ≡ up_to (work (listing N (flag_at flags) (pairs_of kids)))
    total_handed = ap (λ (x : Prices). x.total) answer

    module _ (exact : work (listing N (flag_at flags) (pairs_of kids)) < 9007199254740992) where
      pub total_is : exact_of t ≡ work (listing N (flag_at flags) (pairs_of kids))
      total_is = exact_total t _ total_handed exact

      pub rankable : (total : ℕ) → total ≡ exact_of t → Rankable W m n weights kids order sets sizes works total
      rankable total e =
          record {
            narrow = p.narrow;
            fits = p.fits;
            steps = ordered_steps p.ordered;
            few = omega (arith, p.few, (ordered_steps p.ordered).numbers);
            room = omega (arith, room.for_sets, ap length f.sets_are ∙ with_sets_length sets₀ W (λ v j. memb j (list_at N (pairs_of kids) v)) (node_places N));
            sizes_in = omega (arith, nodes_are, sizes_long);
            works_in = omega (arith, nodes_are, works_long);
            weight_places = p.weight_places;
            light = weights_light p;
            total_is = (node_sums flags 0 0 0 priced_tree).totals ∙ sym total_is ∙ sym e;
            exact = omega (arith, e, total_is);
          }

-- the same from all that pricing promises
module _ {W m n o : ℕ} {weights counts rows outputs kids order : List ℕ} (p : Priceable W m n o weights counts rows outputs kids order)
    {outside : ℕ} {sets₀ sizes₀ works₀ steps₀ : List ℕ}
    (room : Room W n kids order outside (length sets₀) (length sizes₀) (length works₀) (length steps₀))
    (flags sets sizes works steps : List ℕ) (r : Prices)
    (q : Pricing W (network_of m n o weights counts rows outputs) (flag_at flags) (pairs_of kids) sets₀ sizes₀ works₀ steps₀ sets sizes works steps r) where
  abbrev priced : Network
  priced = network_of m n o weights counts rows outputs

  pub filled_of : Filled W priced (flag_at flags) (pairs_of kids) sets₀ sizes₀ works₀ sets sizes works
  filled_of = record { sets_are = q.list.sets_are; sizes_are = q.list.sizes_are; works_are = q.list.works_are }

  -- what is answered is told of the lists
  pub answered : ◌≡◌ {A = Prices} r (record { total = up_to (work_sum works n (length order)); widest = widest_in (firsts (n + length order) sizes); slice_bits = sum_of (slice_share weights flags) (range m) })
  answered =
      q.answer ∙ sym (answer p flags filled_of room (up_to (work_sum works n (length order))) (widest_in (firsts (n + length order) sizes)) refl refl)

  pub total_summed : r.total ≡ up_to (work_sum works n (length order))
  total_summed = ap (λ (x : Prices). x.total) answered

  pub widest_found : r.widest ≡ widest_in (firsts (n + length order) sizes)
  widest_found = ap (λ (x : Prices). x.widest) answered

  pub priced_tree_front : PricedTree W priced n (flag_at flags) kids order sets sizes works
  priced_tree_front = priced_tree p flags filled_of room

  pub widest_is_front : r.widest ≡ widest priced (flag_at flags) (listing priced (flag_at flags) (pairs_of kids))
  widest_is_front = widest_is p flags filled_of room r.total r.widest total_summed widest_found

  pub total_handed_front : r.total ≡ up_to (work (listing priced (flag_at flags) (pairs_of kids)))
  total_handed_front = total_handed p flags filled_of room r.total r.widest total_summed widest_found

  module _ (exact : work (listing priced (flag_at flags) (pairs_of kids)) < 9007199254740992) where
    pub total_is_front : exact_of r.total ≡ work (listing priced (flag_at flags) (pairs_of kids))
    total_is_front = total_is p flags filled_of room r.total r.widest total_summed widest_found exact

    pub rankable_front : (total : ℕ) → total ≡ exact_of r.total → Rankable W m n weights kids order sets sizes works total
    rankable_front = rankable p flags filled_of room r.total r.widest total_summed widest_found exact

-- Pricing on lent lists, put together: what each call asks is there, and the price list and the answer follow. Assumes nothing.
use Rattle.std.specs.Prelude.{true, cond, ◌≡◌, List, [], map, ℕ, ◌+◌, ◌*◌, ◌≤◌, length, Option}
use Rattle.std.proofs.Common.{sym, ◌∙◌, ap, subst, arith}
use Rattle.spec.specs.Lists.{memb, range, sum_of}
use Rattle.spec.specs.Memory.{over}
use Rattle.spec.specs.Layout.{firsts, network_of}
use Rattle.spec.specs.Network.{Network, leaf_count, index_count, weight}
use Rattle.spec.specs.Tree.{Pair, pairs_of, valid}
use Rattle.spec.specs.Price.{list_at, size_at, work_at, listing, work, up_to, widest, slice_bits, price_of}
use Rattle.spec.specs.declared.Total.{Total}
use Rattle.spec.specs.Calls.{flag_at, node_places}
use Rattle.laws.specs.Integers.{ℤ_semiring}
use Rattle.spec.specs.RunClaims.{RunsToDirectSum}
use Rattle.laws.specs.Theorem.{listing_runs}
use Rattle.laws.specs.OrderLaws.{valid_length}
use Rattle.laws.specs.ListLaws.{sum_same_from}
use Rattle.laws.specs.FlatLaws.{left_of, right_of}
use Rattle.slots.specs.Weigh.{open_weight, Light, open_light}
use Rattle.network.specs.Layouts.{layout_leaf_count, layout_index_count, layout_weights, layout_weight, layout_legs}
use Rattle.nodesets.specs.Passes.{nodes, with_sets}
use Rattle.nodesets.specs.Sets.{held-with_sets}
use Rattle.nodesets.specs.Lists.{ordered_steps}
use Rattle.nodebits.specs.Bits.{Effective, Known, size_of, node_work}
use Rattle.spec.specs.declared.Prices.{Prices}
use Rattle.pricing.specs.Answers.{widest_in}
use Rattle.pricing.specs.Sums.{work_sum, slice_share}
use Rattle.pricing.specs.Lines.{lines}
use Rattle.pricing.specs.Tables.{slice_sum}
use Rattle.pricing.specs.Promise.{Priceable, ListingSound, Filled, PriceList}
use Rattle.pricing.specs.Handed.{handed_is}
use Rattle.pricing.specs.Whole.{InOrder, in_order, NodesRight, nodes_right, sizes_are, works_are, steps_are, total_is, widest_is}

module _ {W m n o : ℕ} {weights counts rows outputs kids order : List ℕ} (p : Priceable W m n o weights counts rows outputs kids order) where
  abbrev N : Network
  N = network_of m n o weights counts rows outputs

  abbrev a : List Pair
  a = pairs_of kids

  pub leaf_count_lem : leaf_count N ≡ n
  leaf_count_lem = layout_leaf_count m n o weights counts rows outputs

  pub places : node_places N ≡ nodes n kids
  places = omega (arith, leaf_count_lem, (ordered_steps p.ordered).numbers)

  pub weights_light : Light (firsts m weights)
  weights_light j = rw (layout_weights m n o weights counts rows outputs) at (p.accepted.weights_fit j)

  pub slice_is : (flags : List ℕ) → sum_of (slice_share weights flags) (range m) ≡ slice_bits N (flag_at flags)
  slice_is flags =
      let e : index_count N ≡ m = layout_index_count m n o weights counts rows outputs in
      sum_same_from (slice_share weights flags) (λ j. cond (flag_at flags j) (weight N j) 0) 0 m
      (λ j b h. ap (λ (y : ℕ). cond (flag_at flags j) y 0) (sym (layout_weight m n o weights counts rows outputs j (omega arith))))
      ∙ ap (λ (k : ℕ). sum_of (λ j. cond (flag_at flags j) (weight N j) 0) (range k)) (sym e)
      ∙ sym (slice_sum N (flag_at flags))

  pub listing_sound : (flags : List ℕ) {sets₀ sizes₀ works₀ steps₀ sets sizes works steps : List ℕ}
      → nodes n kids * W ≤ length sets₀ → length order * 5 ≤ length steps₀
      → PriceList W N (flag_at flags) a sets₀ sizes₀ works₀ steps₀ sets sizes works steps → ListingSound W N (flag_at flags) a sets steps
  listing_sound flags {sets₀} {sizes₀} {works₀} {steps₀} {sets} {sizes} {works} {steps} room room' l two sliceable tables =
      let v : valid (leaf_count N) a ≡ true = rw leaf_count_lem p.ordered.is_valid in
      let s = ordered_steps p.ordered in
      let q : leaf_count N + length a ≡ node_places N = omega (arith, valid_length (leaf_count N) a v, two) in
      let fits : index_count N ≤ W * 64 = omega (arith, p.fits, layout_index_count m n o weights counts rows outputs) in
      let e = handed_is N (flag_at flags) a v (omega (arith, two)) W sets₀ sets steps₀ steps fits q
      (rw places room) (omega (arith, room', s.steps, leaf_count_lem)) l.sets_are l.steps_are in
      subst (RunsToDirectSum ℤ_semiring N tables (flag_at flags) a) (sym e)
      (listing_runs ℤ_semiring N tables (flag_at flags) a (record {
        two = two;
        in_range = p.accepted.in_range;
        is_valid = v;
        sliceable = sliceable;
      }))

  module _ (flags effective sets₀ sets : List ℕ) (eff : Effective (firsts m weights) flags effective) (room : nodes n kids * W ≤ length sets₀)
      (are : sets ≡ with_sets sets₀ W (λ v j. memb j (list_at N a v)) (nodes n kids)) where
    right : NodesRight N n W kids order sets flags effective
    right =
        nodes_right N W kids order sets flags effective p.accepted
        (omega (arith, p.fits, layout_index_count m n o weights counts rows outputs))
        (rw (layout_weights m n o weights counts rows outputs) eff)
        n leaf_count_lem p.ordered
        (λ v j h b. rw are (held-with_sets sets₀ W (λ v j. memb j (list_at N a v)) (nodes n kids) v j room h b))

    light : Light effective
    light j = rw (eff j) (open_light (firsts m weights) flags weights_light j)

    pub known : W * 64 ≤ length effective → nodes n kids * W ≤ length sets → Known W n counts rows kids order sets effective
    known fits room' =
        record {
          inner = record {
            narrow = p.narrow;
            fits = fits;
            light = light;
            steps = right.steps;
            room = room';
            nested = right.nests;
          };
          rows = p.row_places;
          leaves = λ i h. right.leaves i h ∙ ap (sum_of (open_weight effective [])) (layout_legs m n o weights counts rows outputs i h);
        }

    pub filled : (sizes₀ works₀ sizes works : List ℕ)
        → sizes ≡ over sizes₀ (map (size_of effective sets W) (range (nodes n kids)))
        → works ≡ over works₀ (map (node_work effective sets kids W n) (range (nodes n kids)))
        → Filled W N (flag_at flags) a sets₀ sizes₀ works₀ sets sizes works
    filled sizes₀ works₀ sizes works es ew =
        record {
          sets_are = rw places are;
          sizes_are = rw places (sizes_are right sizes₀ sizes es);
          works_are = rw places (works_are right works₀ works ew);
        }

  module _ (flags : List ℕ) {sets₀ sizes₀ works₀ sets sizes works : List ℕ} (fits_sizes : nodes n kids ≤ length sizes₀) (fits_works : nodes n kids ≤ length works₀)
      (f : Filled W N (flag_at flags) a sets₀ sizes₀ works₀ sets sizes works) where
    the_order : InOrder N n kids order flags
    the_order = in_order N kids order flags n leaf_count_lem p.ordered

    es : sizes ≡ over sizes₀ (map (size_at N (flag_at flags) a) (range (nodes n kids)))
    es = f.sizes_are ∙ ap (λ (k : ℕ). over sizes₀ (map (size_at N (flag_at flags) a) (range k))) places

    ew : works ≡ over works₀ (map (work_at N (flag_at flags) a) (range (nodes n kids)))
    ew = f.works_are ∙ ap (λ (k : ℕ). over works₀ (map (work_at N (flag_at flags) a) (range k))) places

    pub price_list : {steps₀ steps : List ℕ} → steps ≡ over steps₀ (lines (left_of kids n) (right_of kids n) works sizes order)
        → PriceList W N (flag_at flags) a sets₀ sizes₀ works₀ steps₀ sets sizes works steps
    price_list {steps₀} e =
        record {
          sets_are = f.sets_are;
          sizes_are = f.sizes_are;
          works_are = f.works_are;
          steps_are = e ∙ ap (over steps₀) (steps_are the_order sizes₀ works₀ sizes works fits_sizes fits_works es ew);
        }

    pub price_answer : (t : Total) (w : Option ℕ) (s : ℕ) → t ≡ up_to (work_sum works n (length order))
        → w ≡ widest_in (firsts (nodes n kids) sizes) → s ≡ sum_of (slice_share weights flags) (range m)
        → ◌≡◌ {A = Prices} (record { total = t; widest = w; slice_bits = s }) (price_of N (flag_at flags) a)
    price_answer t w s e g h =
        let et : t ≡ up_to (work (listing N (flag_at flags) a)) =
        e ∙ ap up_to (total_is the_order sizes₀ works₀ sizes works fits_sizes fits_works es ew) in
        let ef : w ≡ widest N (flag_at flags) (listing N (flag_at flags) a) =
        g ∙ widest_is the_order sizes₀ works₀ sizes works fits_sizes fits_works es ew in
        let eg : s ≡ slice_bits N (flag_at flags) = h ∙ slice_is flags in
        λ i. record { total = et i; widest = ef i; slice_bits = eg i }

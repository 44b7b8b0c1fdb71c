-- The choice put together: what each call asks is there, and the best that the loop finds is the definition's. Assumes nothing.
use Rattle.std.specs.Prelude.{cond, ◌≡◌, List, ℕ, ◌+◌, ◌*◌, ◌^◌, ◌≤◌, ◌<◌, length, get_or, Option}
use Rattle.std.proofs.Common.{sym, ◌∙◌, ap, arith}
use Rattle.spec.specs.Lists.{memb, range, sum_of}
use Rattle.spec.specs.Memory.{filled}
use Rattle.spec.specs.Layout.{firsts, network_of}
use Rattle.spec.specs.Network.{index_count, weight}
use Rattle.spec.specs.Calls.{flag_at}
use Rattle.cells.specs.Cells.{filled_length, filled_all}
use Rattle.slots.specs.Weigh.{open_weight, either}
use Rattle.network.specs.Layouts.{layout_index_count, layout_weights, layout_outputs}
use Rattle.nodesets.specs.Passes.{nodes}
use Rattle.slicing.specs.Sums.{Small, Summed, share_most}
use Rattle.slicing.specs.Nodes.{StepsKnown, TablesKnown, step_share, table_share, sum_le}
use Rattle.laws.specs.FlatLaws.{left_of, right_of}
use Rattle.slicing.specs.declared.ranks.Rank.{Rank as Found}
use Rattle.slicing.specs.Best.{best_of, candidate_in, rank_in}
use Rattle.slicing.specs.Tables.{candidate_is}
use Rattle.slicing.specs.Promise.{Rankable, plan_with, Chosen, node_sums, best_chosen}

-- no sum yet
abbrev pub none : List ℕ
none = filled 1024 0

none_small : Small 1152921504606846976 none
none_small j = omega (arith, filled_all {A = ℕ} 1024 j 0)

module _ {W m n : ℕ} {weights kids order sets sizes works : List ℕ} {total : ℕ} (k : Rankable W m n weights kids order sets sizes works total) where
  nodes_are : nodes n kids ≡ n + length order
  nodes_are = omega (arith, k.steps.numbers, k.steps.steps)

  pub steps_known : StepsKnown W n kids order sets works none
  steps_known =
      record {
        steps = k.steps;
        fits = omega (arith, k.narrow, filled_length {A = ℕ} 1024 0);
        room = k.room;
        works_in = k.works_in;
        total = omega (arith, k.total_is, k.exact);
        small = none_small;
      }

  pub tables_known : TablesKnown W (n + length order) sets sizes none
  tables_known =
      record {
        few = omega (arith, nodes_are, k.few);
        fits = omega (arith, k.narrow, filled_length {A = ℕ} 1024 0);
        room = rw nodes_are at k.room;
        sizes_in = omega (arith, nodes_are, k.sizes_in);
        small = none_small;
      }

  pub touching_most : (touch : List ℕ) → Summed (step_share W (left_of kids n) (right_of kids n) sets works) none order touch
      → (j : ℕ) → get_or touch j 0 ≤ total
  touching_most touch s j =
      omega (
        arith,
        s.at j,
        filled_all {A = ℕ} 1024 j 0,
        k.total_is,
        sum_le (step_share W (left_of kids n) (right_of kids n) sets works j) (λ v. 2 ^ get_or works v 0) order
            (λ v. share_most (2 ^ get_or works v 0) j (either sets W (left_of kids n v) (right_of kids n v)) 0 (W * 64)),
      )

  -- THE CHOICE IS THE DEFINITION'S
  pub chosen_is : (o : ℕ) (outputs flags : List ℕ) (target : ℕ) (sliceable touch above : List ℕ) (r : Option Found)
      → ((j : ℕ) → get_or sliceable j 0 ≡ cond (memb j (firsts o outputs)) 0 (open_weight (firsts m weights) flags j))
      → Summed (step_share W (left_of kids n) (right_of kids n) sets works) none order touch
      → Summed (table_share W target sets sizes) none (range (n + length order)) above
      → r ≡ best_of (candidate_in sliceable above) (rank_in total sliceable touch above) m
      → Chosen W m n o weights outputs flags kids order sets sizes works target r
  chosen_is o outputs flags target sliceable touch above r e s t f counts rows rebuilt tried q =
      let N = network_of m n o weights counts rows outputs in
      let p = plan_with flags kids rebuilt tried in
      let c : index_count N ≡ m = layout_index_count m n o weights counts rows outputs in
      let d = node_sums flags target rebuilt tried q in
      let low : (j : ℕ) → j < index_count N → j < W * 64 = λ j h. omega (arith, k.fits) in
      let w : (j : ℕ) → get_or sliceable j 0 ≡ cond (memb j N.outputs) 0 (cond (flag_at flags j) 0 (weight N j)) =
      λ j. rw (layout_outputs m n o weights counts rows outputs, layout_weights m n o weights counts rows outputs) (e j) in
      let z : (j : ℕ) → get_or none j 0 ≡ 0 = λ j. filled_all {A = ℕ} 1024 j 0 in
      let y : n + length order ≡ nodes n kids = omega (arith, nodes_are) in
      f ∙ ap (best_of (candidate_in sliceable above) (rank_in total sliceable touch above)) (sym c)
      ∙ best_chosen {N = N} {target = target} {p = p} {total = total} {sliceable = sliceable} {works = touch} {sizes = above} (record {
        totals = sym k.total_is ∙ d.totals;
        weighs = w;
        touch = λ j h. omega (arith, s.at j, z j, d.touch j (low j h));
        sized = λ j h. omega (arith, t.at j, z j, ap (λ (x : ℕ). sum_of (table_share W target sets sizes j) (range x)) y, d.sized j (low j h));
        candidates_are = λ j h. candidate_is N target p j (get_or sliceable j 0) (get_or above j 0) (w j)
            (omega (arith, t.at j, z j, ap (λ (x : ℕ). sum_of (table_share W target sets sizes j) (range x)) y, d.sized j (low j h)));
      })

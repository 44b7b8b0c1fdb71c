-- What is asked where an index is chosen, and that the choice is the definition's. Assumes nothing.
use Rattle.std.specs.Prelude.{Bool, true, false, not, cond, ◌≡◌, List, ℕ, ◌*◌, ◌^◌, ◌≤◌, ◌<◌, length, get_or, Option}
use Rattle.std.proofs.Common.{◌∙◌, ap, subst}
use Rattle.spec.specs.Lists.{memb, range, sum_of}
use Rattle.spec.specs.Layout.{firsts, network_of}
use Rattle.spec.specs.Network.{Network, leaf_count, index_count, weight}
use Rattle.spec.specs.Tree.{pairs_of}
use Rattle.spec.specs.Price.{list_at, size_at, work_at, listing, work}
use Rattle.spec.specs.Calls.{flag_at}
use Rattle.spec.specs.Slicing.{Plan, rank_of, touching, touched_size, candidate, candidates}
use Rattle.laws.specs.Booleans.{by_cases, and_left, and_right, clash}
use Rattle.laws.specs.FlatLaws.{left_of, right_of}
use Rattle.walk.specs.declared.valid.Tree.{Tree}
use Rattle.network.specs.declared.accepted.Accepted.{Accepted}
use Rattle.pricing.specs.declared.list.PriceList.{PriceList}
use Rattle.slots.specs.Slots.{held}
use Rattle.slots.specs.Weigh.{Light}
use Rattle.nodesets.specs.Passes.{nodes}
use Rattle.nodesets.specs.Steps.{Steps}
use Rattle.nodesets.specs.Lists.{Ordered}
use Rattle.slicing.specs.Nodes.{step_share, table_share}
use Rattle.slicing.specs.declared.ranks.Rank.{Rank as Found}
use Rattle.slicing.specs.Best.{best_of, candidate_in, rank_in}
use Rattle.slicing.specs.Folds.{best_in, best_same, best_is}
use Rattle.slicing.specs.Tables.{touching_is, sizes_summed, total_is}

-- a step order and the nodes' sets, sizes and works, in lists that are long enough; the total is exact
pub record Rankable (W m n : ℕ) (weights kids order sets sizes works : List ℕ) (total : ℕ) : Type 0 where
  pub narrow : W ≤ 16
  pub fits : m ≤ W * 64
  pub steps : Steps n kids order
  pub few : nodes n kids ≤ 131072
  pub room : nodes n kids * W ≤ length sets
  pub sizes_in : nodes n kids ≤ length sizes
  pub works_in : nodes n kids ≤ length works
  pub weight_places : m ≤ length weights
  pub light : Light (firsts m weights)
  pub total_is : sum_of (λ v. 2 ^ get_or works v 0) order ≡ total
  pub exact : total < 9007199254740992

-- the lists have the price list of a network's tree
pub record PricedTree (W : ℕ) (N : Network) (n : ℕ) (flag : ℕ → Bool) (kids order sets sizes works : List ℕ) : Type 0 where
  pub leaf_count_lem : leaf_count N ≡ n
  pub ordered : Ordered n kids order
  pub holds : (v j : ℕ) → v < nodes n kids → j < W * 64 → held sets W v j ≡ memb j (list_at N (pairs_of kids) v)
  pub sizes_are : (v : ℕ) → v < nodes n kids → get_or sizes v 0 ≡ size_at N flag (pairs_of kids) v
  pub works_are : (v : ℕ) → v < nodes n kids → get_or works v 0 ≡ work_at N flag (pairs_of kids) v

-- a plan of a tree and flags, with any counts
abbrev pub plan_with : (flags kids : List ℕ) (rebuilt tried : ℕ) → Plan
plan_with flags kids rebuilt tried = record { tree = pairs_of kids; flag = flag_at flags; rebuilt = rebuilt; tried = tried }

-- the choice is the definition's best of the candidates, whichever network's price list it is
abbrev pub Chosen : (W m n o : ℕ) (weights outputs flags kids order sets sizes works : List ℕ) (target : ℕ) → Option Found → Type 0
Chosen W m n o weights outputs flags kids order sets sizes works target r =
    (counts rows : List ℕ) (rebuilt tried : ℕ)
    → PricedTree W (network_of m n o weights counts rows outputs) n (flag_at flags) kids order sets sizes works
    → r ≡ best_in (network_of m n o weights counts rows outputs) target (plan_with flags kids rebuilt tried) (candidates (network_of m n o weights counts rows outputs) target (plan_with flags kids rebuilt tried))

-- the same of a network and a tree, with a price list of W words a set
abbrev pub RankableTree : (W : ℕ) → PriceList → Accepted → Tree → List ℕ → ℕ → Type 0
RankableTree W list network tree order total =
    Rankable W (length network.weights.now) tree.leaves network.weights.now tree.kids.now order list.sets.now list.sizes.now list.works.now total

abbrev pub ChosenOf : (W : ℕ) → PriceList → Accepted → List ℕ → Tree → List ℕ → ℕ → Option Found → Type 0
ChosenOf W list network flags tree order target r =
    Chosen W (length network.weights.now) tree.leaves (length network.outputs.now) network.weights.now network.outputs.now flags tree.kids.now order list.sets.now list.sizes.now list.works.now target r

-- ---- what the sums say ----

-- sums over the nodes, by the definitions
pub record NodeSums (N : Network) (target : ℕ) (p : Plan) (W n : ℕ) (kids order sets sizes works : List ℕ) : Type 0 where
  pub totals : sum_of (λ v. 2 ^ get_or works v 0) order ≡ work (listing N p.flag p.tree)
  pub touch : (j : ℕ) → j < W * 64 → sum_of (step_share W (left_of kids n) (right_of kids n) sets works j) order ≡ touching N p j
  pub sized : (j : ℕ) → j < W * 64 → sum_of (table_share W target sets sizes j) (range (nodes n kids)) ≡ touched_size N target p j

pub node_sums : {W : ℕ} {N : Network} {n : ℕ} {kids order sets sizes works : List ℕ} (flags : List ℕ) (target rebuilt tried : ℕ)
    → PricedTree W N n (flag_at flags) kids order sets sizes works → NodeSums N target (plan_with flags kids rebuilt tried) W n kids order sets sizes works
node_sums {W} {N} {n} {kids} {order} {sets} {sizes} {works} flags target rebuilt tried t =
    subst
    (λ (y : ℕ). Ordered y kids order
    → ((v j : ℕ) → v < nodes y kids → j < W * 64 → held sets W v j ≡ memb j (list_at N (pairs_of kids) v))
    → ((v : ℕ) → v < nodes y kids → get_or sizes v 0 ≡ size_at N (flag_at flags) (pairs_of kids) v)
    → ((v : ℕ) → v < nodes y kids → get_or works v 0 ≡ work_at N (flag_at flags) (pairs_of kids) v)
    → NodeSums N target (plan_with flags kids rebuilt tried) W y kids order sets sizes works)
    t.leaf_count_lem
    (λ o h s w. record {
      totals = total_is N (flag_at flags) kids order sets sizes works W o h s w rebuilt tried;
      touch = touching_is N (flag_at flags) kids order sets sizes works W o h s w rebuilt tried;
      sized = sizes_summed N (flag_at flags) kids order sets sizes works W o h s w rebuilt tried target;
    })
    t.ordered t.holds t.sizes_are t.works_are

-- weights, work and size of each index are those of a plan
pub record Ranks (N : Network) (target : ℕ) (p : Plan) (total : ℕ) (sliceable works sizes : List ℕ) : Type 0 where
  pub totals : total ≡ work (listing N p.flag p.tree)
  pub weighs : (j : ℕ) → get_or sliceable j 0 ≡ cond (memb j N.outputs) 0 (cond (p.flag j) 0 (weight N j))
  pub touch : (j : ℕ) → j < index_count N → get_or works j 0 ≡ touching N p j
  pub sized : (j : ℕ) → j < index_count N → get_or sizes j 0 ≡ touched_size N target p j
  pub candidates_are : (j : ℕ) → j < index_count N → candidate_in sliceable sizes j ≡ candidate N target p j

module _ {N : Network} {target : ℕ} {p : Plan} {total : ℕ} {sliceable works sizes : List ℕ} (r : Ranks N target p total sliceable works sizes) where
  rank_is : (j : ℕ) → j < index_count N → candidate N target p j ≡ true → rank_in total sliceable works sizes j ≡ rank_of N target p j
  rank_is j h c =
      let f : memb j N.outputs ≡ false = by_cases (memb j N.outputs) (λ e. clash (and_left (not (memb j N.outputs)) _ c) (ap not e)) (λ e. e) in
      let c₁ = and_right (not (memb j N.outputs)) _ c in
      let g : p.flag j ≡ false = by_cases (p.flag j) (λ e. clash (and_left (not (p.flag j)) _ c₁) (ap not e)) (λ e. e) in
      let w : get_or sliceable j 0 ≡ weight N j = r.weighs j ∙ rw (f, g) in
      rw (w, r.touch j h, r.sized j h, r.totals)

  pub best_chosen : best_of (candidate_in sliceable sizes) (rank_in total sliceable works sizes) (index_count N) ≡ best_in N target p (candidates N target p)
  best_chosen =
      best_same (candidate_in sliceable sizes) (candidate N target p) (rank_in total sliceable works sizes) (rank_of N target p) (index_count N)
      r.candidates_are rank_is
      ∙ best_is N target p (candidate N target p) (index_count N)

-- What pricing asks of the lent lists, and what it leaves in them: the price list. Assumes nothing.
use Rattle.std.specs.Prelude.{Bool, ◌≡◌, List, [], ◌∷◌, map, ℕ, ◌*◌, ◌≤◌, length, take}
use Rattle.spec.specs.Lists.{memb, range, keep}
use Rattle.spec.specs.Memory.{over}
use Rattle.spec.specs.Layout.{network_of}
use Rattle.spec.specs.Network.{Network, leaf_count, index_count, Sliceable}
use Rattle.spec.specs.NetworkClaims.{Accepted}
use Rattle.spec.specs.Tree.{Pair, step_order}
use Rattle.spec.specs.Price.{Step, list_at, listing, flat_steps, size_at, work_at, price_of}
use Rattle.spec.specs.Calls.{node_places, step_places}
use Rattle.spec.specs.RunClaims.{RunsToDirectSum}
use Rattle.laws.specs.Integers.{ℤ_semiring}
use Rattle.walk.specs.declared.valid.Tree.{Tree}
use Rattle.network.specs.declared.accepted.Accepted.{Accepted as Lists}
use Rattle.network.specs.Checks.{Rows}
use Rattle.network.specs.Views.{net_in}
use Rattle.slots.specs.Slots.{held}
use Rattle.nodesets.specs.Passes.{nodes, with_sets}
use Rattle.nodesets.specs.Lists.{Ordered}
use Rattle.spec.specs.declared.Prices.{Prices}

-- an accepted network, a valid tree and its step order, in lent lists; W words a set
pub record Priceable (W m n o : ℕ) (weights counts rows outputs kids order : List ℕ) : Type 0 where
  pub narrow : W ≤ 16
  pub fits : m ≤ W * 64
  pub few : n ≤ 65536
  pub few_outputs : o ≤ 65536
  pub weight_places : m ≤ length weights
  pub row_places : Rows n counts rows
  pub accepted : Accepted (network_of m n o weights counts rows outputs)
  pub ordered : Ordered n kids order

-- a set of W words has at most M places for indices, of 1,024 that are always enough
abbrev pub FitsIn : (M W : ℕ) → Type 0
FitsIn M W = (W * 64 ≤ M) × (M ≤ 1024)

-- the tree is one of as many leaves as the network has
abbrev pub HasLeavesOf : Lists → Tree → Type 0
HasLeavesOf network tree = tree.leaves ≡ leaf_count (net_in network)

-- the order is that of the tree's steps
abbrev pub IsOrderOf : Tree → List ℕ → Type 0
IsOrderOf tree order = order ≡ step_order tree.kids.now tree.leaves

-- the lists that are filled are long enough
pub record Room (W n : ℕ) (kids order : List ℕ) (outside sets sizes works steps : ℕ) : Type 0 where
  pub for_outside : nodes n kids * W ≤ outside
  pub for_sets : nodes n kids * W ≤ sets
  pub for_sizes : nodes n kids ≤ sizes
  pub for_works : nodes n kids ≤ works
  pub for_steps : length order * 5 ≤ steps

-- the steps of a flat listing, each with its node's list
abbrev pub steps_in : (ℕ → List ℕ) → List ℕ → List Step
steps_in f [] = []
steps_in f (v ∷ []) = []
steps_in f (v ∷ l ∷ []) = []
steps_in f (v ∷ l ∷ r ∷ []) = []
steps_in f (v ∷ l ∷ r ∷ w ∷ []) = []
steps_in f (v ∷ l ∷ r ∷ w ∷ s ∷ rest) = record { made = v; left = l; right = r; work_bits = w; size_bits = s; list = f v } ∷ steps_in f rest

-- the indices below m that slot v holds, rising
abbrev pub set_at : List ℕ → ℕ → ℕ → ℕ → List ℕ
set_at sets W m v = keep (held sets W v) (range m)

-- the listing that is handed out: the first c steps of a flat list, with the sets
abbrev pub handed_out : ℕ → ℕ → ℕ → List ℕ → List ℕ → List Step
handed_out W m c sets steps = steps_in (set_at sets W m) (take (c * 5) steps)

-- the run of the listing that is handed out, in every setting of the flagged indices, adds up to the direct sum: tables of whole numbers
abbrev pub ListingSound : ℕ → Network → (ℕ → Bool) → List Pair → (sets steps : List ℕ) → Type 0
ListingSound W N flag a sets steps =
    2 ≤ leaf_count N → Sliceable N flag → (tables : ℕ → List ℕ → ℤ_semiring.Car)
    → RunsToDirectSum ℤ_semiring N tables flag a (handed_out W (index_count N) (step_places N) sets steps)

-- each lent list has the price list at its front, and what stood there after it: the lists by node
pub record Filled (W : ℕ) (N : Network) (flag : ℕ → Bool) (a : List Pair) (sets₀ sizes₀ works₀ sets sizes works : List ℕ) : Type 0 where
  pub sets_are : sets ≡ with_sets sets₀ W (λ v j. memb j (list_at N a v)) (node_places N)
  pub sizes_are : sizes ≡ over sizes₀ (map (size_at N flag a) (range (node_places N)))
  pub works_are : works ≡ over works₀ (map (work_at N flag a) (range (node_places N)))

-- and with the listing
pub record PriceList (W : ℕ) (N : Network) (flag : ℕ → Bool) (a : List Pair) (sets₀ sizes₀ works₀ steps₀ sets sizes works steps : List ℕ) : Type 0 where
  pub sets_are : sets ≡ with_sets sets₀ W (λ v j. memb j (list_at N a v)) (node_places N)
  pub sizes_are : sizes ≡ over sizes₀ (map (size_at N flag a) (range (node_places N)))
  pub works_are : works ≡ over works₀ (map (work_at N flag a) (range (node_places N)))
  pub steps_are : steps ≡ over steps₀ (flat_steps (listing N flag a))

pub record Pricing (W : ℕ) (N : Network) (flag : ℕ → Bool) (a : List Pair) (sets₀ sizes₀ works₀ steps₀ sets sizes works steps : List ℕ) (r : Prices) : Type 0 where
  pub list : PriceList W N flag a sets₀ sizes₀ works₀ steps₀ sets sizes works steps
  pub answer : r ≡ price_of N flag a
  pub sound : ListingSound W N flag a sets steps

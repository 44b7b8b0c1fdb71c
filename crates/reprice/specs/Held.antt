-- A tree in a flat list of children, and its price list in lent lists. Definitions only. Assumes nothing.
use Rattle.std.specs.Prelude.{Bool, false, List, ◌≡◌, ℕ, ◌+◌, ◌*◌, ◌^◌, ◌≤◌, ◌<◌, length, get_or, Option, None, Some}
use Rattle.spec.specs.Lists.{memb}
use Rattle.spec.specs.Network.{Network, leaf_count}
use Rattle.spec.specs.Tree.{Tree, leaf, tree_at, root, pairs_of}
use Rattle.spec.specs.Price.{list_at, size_at, work_at}
use Rattle.spec.specs.Calls.{node_places, wrong_tree, total_is_beyond}
use Rattle.slots.specs.Slots.{held}
use Rattle.pricing.specs.declared.list.PriceList.{PriceList}

-- the tree that a flat list of children has
abbrev pub or_leaf : Option Tree → Tree
or_leaf None = leaf 0
or_leaf (Some t) = t

unfoldable pub tree_of : ℕ → List ℕ → Tree
tree_of n kids = or_leaf (tree_at n (pairs_of kids) (root n (pairs_of kids)))

-- the lists have the price list of the tree in `kids`: each node's set in its slot of four words, its size bits and its work bits at its place
pub record PriceHeld (N : Network) (flag : ℕ → Bool) (kids sets sizes works : List ℕ) : Type 0 where
  pub sets_are : (v j : ℕ) → v < node_places N → j < 256 → held sets 4 v j ≡ memb j (list_at N (pairs_of kids) v)
  pub sizes_are : (v : ℕ) → v < node_places N → get_or sizes v 0 ≡ size_at N flag (pairs_of kids) v
  pub works_are : (v : ℕ) → v < node_places N → get_or works v 0 ≡ work_at N flag (pairs_of kids) v

-- the lists are long enough; the words are the stated workspace
pub record Room (k words sets sizes works : ℕ) : Type 0 where
  pub for_words : 4096 + 8 * 2 ^ k ≤ words
  pub for_sets : 1020 ≤ sets
  pub for_sizes : 255 ≤ sizes
  pub for_works : 255 ≤ works

-- what stands before and after each visit: a valid tree, its price list, and a total that is not beyond
pub record Standing (N : Network) (flag : ℕ → Bool) (kids sets sizes works : List ℕ) : Type 0 where
  pub right : wrong_tree (leaf_count N) kids ≡ false
  pub prices : PriceHeld N flag kids sets sizes works
  pub total : total_is_beyond N flag (pairs_of kids) ≡ false

-- the lists are as long as before
abbrev pub IsAsLong : PriceList → PriceList → Type 0
IsAsLong old new =
    (length new.sets.now ≡ length old.sets.now) × (length new.sizes.now ≡ length old.sizes.now) × (length new.works.now ≡ length old.works.now)

-- What one visit of a node promises. Definitions only. Assumes nothing.
use Rattle.std.specs.Prelude.{Bool, false, List, ◌≡◌, ℕ, ◌^◌, ◌<◌, length, get_or, Option}
use Rattle.spec.specs.Network.{Network, leaf_count}
use Rattle.spec.specs.Calls.{wrong_tree}
use Rattle.spec.specs.Improve.{visit}
use Rattle.locals.specs.Locals.{local_weight, LocalSets}
use Rattle.subset.specs.Search.{found_at, searched_in, tried_in}
use Rattle.reprice.specs.Held.{tree_of, Standing}

-- the search among members in local numbers: its cost and its count, from the rows and the weights that it started with
pub record Searches (sets members local weights : List ℕ) (v : ℕ) (limit : Option ℕ) (part : List ℕ) (cost : Option ℕ) (tried : ℕ) : Type 0 where
  pub united : List (List ℕ)
  pub wt : List ℕ
  pub placed : LocalSets sets 4 v members (length members) local (length local) united
  pub weighs : (i : ℕ) → i < 128 → get_or wt i 0 ≡ local_weight weights local (length local) i
  pub found : found_at part (2 ^ length members) cost ≡ searched_in united wt limit (length members)
  pub count : tried ≡ tried_in united wt limit (length members)

-- the same among the first m members of a longer list, in numbers of the first c of a longer list of local indices
pub record SearchesFront (sets members local weights : List ℕ) (v m c : ℕ) (limit : Option ℕ) (part : List ℕ) (cost : Option ℕ) (tried : ℕ) : Type 0 where
  pub united : List (List ℕ)
  pub wt : List ℕ
  pub placed : LocalSets sets 4 v members m local c united
  pub weighs : (i : ℕ) → i < 128 → get_or wt i 0 ≡ local_weight weights local c i
  pub found : found_at part (2 ^ m) cost ≡ searched_in united wt limit m
  pub count : tried ≡ tried_in united wt limit m

-- the tree and the counts of one visit; where nothing is rebuilt the list is as it was
pub record Reconfs (N : Network) (flag : ℕ → Bool) (k : ℕ) (limit : Option ℕ) (v : ℕ) (kids₀ kids : List ℕ) (rebuilt tried : ℕ) : Type 0 where
  pub right : wrong_tree (leaf_count N) kids ≡ false
  pub tree : tree_of (leaf_count N) kids ≡ (visit N flag k limit v (tree_of (leaf_count N) kids₀)).tree
  pub is_rebuilt : rebuilt ≡ (visit N flag k limit v (tree_of (leaf_count N) kids₀)).rebuilt
  pub is_tried : tried ≡ (visit N flag k limit v (tree_of (leaf_count N) kids₀)).tried
  pub same : rebuilt ≡ 0 → kids ≡ kids₀

-- and with the price list of the tree that then stands
pub record Visits (N : Network) (flag : ℕ → Bool) (k : ℕ) (limit : Option ℕ) (v : ℕ) (kids₀ kids sets sizes works : List ℕ) (rebuilt tried : ℕ) : Type 0 where
  pub tree : tree_of (leaf_count N) kids ≡ (visit N flag k limit v (tree_of (leaf_count N) kids₀)).tree
  pub is_rebuilt : rebuilt ≡ (visit N flag k limit v (tree_of (leaf_count N) kids₀)).rebuilt
  pub is_tried : tried ≡ (visit N flag k limit v (tree_of (leaf_count N) kids₀)).tried
  pub standing : Standing N flag kids sets sizes works

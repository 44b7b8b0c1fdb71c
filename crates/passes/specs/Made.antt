-- What visits, passes and all passes ask of the lent lists, and what they leave in them. Definitions only. Assumes nothing.
use Rattle.std.specs.Prelude.{Bool, false, List, ◌≡◌, ℕ, ◌*◌, ◌≤◌, Option}
use Rattle.spec.specs.Layout.{network_of}
use Rattle.spec.specs.Network.{Network, leaf_count}
use Rattle.spec.specs.Calls.{dangling}
use Rattle.spec.specs.Improve.{Visited, visits, pass, improve_tree}
use Rattle.network.specs.Checks.{Lent}
use Rattle.network.specs.Codes.{Facts}
use Rattle.reprice.specs.Held.{Room, Standing, tree_of}

-- the most splits that a visit tries: 3^12 and fewer
abbrev pub most_tried : ℕ
most_tried = 531441

-- an accepted network with no dangling index, and lists that are long enough; k after clamping
pub record Ready (m n o k words sets sizes works : ℕ) (weights counts legs outputs : List ℕ) : Type 0 where
  pub lent : Lent weights counts legs outputs
  pub facts : Facts m n o weights counts legs outputs
  pub closed : dangling (network_of m n o weights counts legs outputs) ≡ false
  pub room : Room k words sets sizes works
  pub low : 3 ≤ k
  pub high : k ≤ 12

-- the tree in `kids` and the counts are d's, and the price list is the tree's
pub record Made (N : Network) (flag : ℕ → Bool) (d : Visited) (kids sets sizes works : List ℕ) (rebuilt tried : ℕ) : Type 0 where
  pub tree : tree_of (leaf_count N) kids ≡ d.tree
  pub is_rebuilt : rebuilt ≡ d.rebuilt
  pub is_tried : tried ≡ d.tried
  pub standing : Standing N flag kids sets sizes works

module _ (N : Network) (flag : ℕ → Bool) (k : ℕ) (limit : Option ℕ) where
  -- by visits of the nodes vs, by a pass, by at most as many passes, in the tree of kids₀
  abbrev pub VisitsAll : List ℕ → (kids₀ kids sets sizes works : List ℕ) (rebuilt tried : ℕ) → Type 0
  VisitsAll vs kids₀ = Made N flag (visits N flag k limit vs (tree_of (leaf_count N) kids₀))

  pub record Passes (kids₀ kids sets sizes works : List ℕ) (rebuilt tried : ℕ) : Type 0 where
    pub made : Made N flag (pass N flag k limit (tree_of (leaf_count N) kids₀)) kids sets sizes works rebuilt tried
    pub few_rebuilt : rebuilt ≤ 127
    pub few_tried : tried ≤ 127 * most_tried

  abbrev pub Improves : ℕ → (kids₀ kids sets sizes works : List ℕ) (rebuilt tried : ℕ) → Type 0
  Improves most kids₀ = Made N flag (improve_tree N flag k limit most (tree_of (leaf_count N) kids₀))

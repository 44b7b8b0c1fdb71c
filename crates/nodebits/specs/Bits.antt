-- What size bits and work bits are, in the terms of the nodes' sets and the effective weights; what is asked of a step and of a tree.
-- Assumes nothing.
use Rattle.std.specs.Prelude.{true, cond, List, [], ◌≡◌, ℕ, ◌+◌, ◌*◌, ◌≤◌, ◌<◌, ltb, length, get_or}
use Rattle.spec.specs.Lists.{memb, sum_of}
use Rattle.spec.specs.Layout.{row_at}
use Rattle.slots.specs.Slots.{held}
use Rattle.slots.specs.Weigh.{open_weight, Light, weighed, either}
use Rattle.network.specs.Checks.{Rows}
use Rattle.nodesets.specs.Passes.{nodes}
use Rattle.nodesets.specs.Steps.{Steps}
use Rattle.laws.specs.FlatLaws.{left_of, right_of}

-- a list has each index's weight, and 0 where the index is flagged
abbrev pub Effective : (weights flags effective : List ℕ) → Type 0
Effective weights flags effective = (j : ℕ) → get_or effective j 0 ≡ open_weight weights flags j

-- the weights of the set in slot s
abbrev pub size_of : (effective sets : List ℕ) (W s : ℕ) → ℕ
size_of effective sets W s = weighed effective [] (held sets W s) (W * 64)

-- the weights of the sets in slots l and r together
abbrev pub work_of : (effective sets : List ℕ) (W l r : ℕ) → ℕ
work_of effective sets W l r = weighed effective [] (either sets W l r) (W * 64)

-- the weights of a leaf's indices
abbrev pub leaf_size : (effective counts legs : List ℕ) → ℕ → ℕ
leaf_size effective counts legs i = sum_of (open_weight effective []) (row_at counts legs i)

-- the work bits of node s: a leaf has none
abbrev pub node_work : (effective sets kids : List ℕ) (W n s : ℕ) → ℕ
node_work effective sets kids W n s = cond (ltb s n) 0 (work_of effective sets W (left_of kids n s) (right_of kids n s))

-- what is asked at a step: its slots are within the list
pub record StepKnown (W l r v : ℕ) (sets effective : List ℕ) : Type 0 where
  pub narrow : W ≤ 16
  pub fits : W * 64 ≤ length effective
  pub light : Light effective
  pub left_in : l * W + W ≤ length sets
  pub right_in : r * W + W ≤ length sets
  pub node_in : v * W + W ≤ length sets

-- what is asked of a tree and of its nodes' sets
pub record InnerKnown (W n : ℕ) (kids order sets effective : List ℕ) : Type 0 where
  pub narrow : W ≤ 16
  pub fits : W * 64 ≤ length effective
  pub light : Light effective
  pub steps : Steps n kids order
  pub room : nodes n kids * W ≤ length sets
  -- a node's set is a part of its children's together
  pub nested : (v j : ℕ) → memb v order ≡ true → j < W * 64 → held sets W v j ≡ true → either sets W (left_of kids n v) (right_of kids n v) j ≡ true

-- and of its leaves
pub record Known (W n : ℕ) (counts legs kids order sets effective : List ℕ) : Type 0 where
  pub inner : InnerKnown W n kids order sets effective
  pub rows : Rows n counts legs
  -- a leaf's set weighs what its indices weigh
  pub leaves : (i : ℕ) → i < n → size_of effective sets W i ≡ leaf_size effective counts legs i

-- Which indices are named below a node, and which are wanted outside it, from node to node: the recurrences that the passes run on.
-- Assumes nothing.
use Rattle.std.specs.Prelude.{◌≡◌, refl, Bool, true, not, ◌&&◌, ◌||◌, List, ℕ, ◌≤◌, ◌<◌, ltb, Some}
use Rattle.std.proofs.Common.{sym, ◌∙◌, ap, arith}
use Rattle.std.proofs.Math.Bool.{false, or_assoc, or-false}
use borrow.Author.Tests.{lt-ltb, ltb-true, ltb-false}
use Rattle.spec.specs.Lists.{memb, range}
use Rattle.spec.specs.Network.{Network, leaf_count, index_count, legs, named, InRange}
use Rattle.spec.specs.Tree.{Tree, leaf, node, number, below, Pair, tree_at, root, below_of, ValidTree}
use Rattle.spec.specs.Price.{kept, list_at}
use Rattle.laws.specs.Booleans.{by_cases}
use Rattle.laws.specs.ListLaws.{memb-keep, memb-keep-range, any_ext}
use Rattle.laws.specs.Arrays.{Inner, valid_full}
use Rattle.laws.specs.Total.{outside_none}
use Rattle.laws.specs.Value.{named_in_range}
use Rattle.laws.specs.Naming.{named-or, named_leaf}

-- the indices that leaves below node v name
abbrev pub under : Network → List Pair → ℕ → ℕ → Bool
under N a v j = named N (below_of (tree_at (leaf_count N) a v)) j

-- the outputs, and the indices that leaves not below node v name
abbrev pub wanted : Network → List Pair → ℕ → ℕ → Bool
wanted N a v j = memb j N.outputs || named N (λ i. not (below_of (tree_at (leaf_count N) a v) i)) j

named_ext : (N : Network) (p q : ℕ → Bool) (j : ℕ) → ((i : ℕ) → i < leaf_count N → p i ≡ q i) → named N p j ≡ named N q j
unfolding named
named_ext N p q j h = any_ext _ _ (leaf_count N) (λ i b. rw (h i b))

outer_left : (x y : Bool) → (x ≡ true → y ≡ false) → not x ≡ (not (x || y) || y)
outer_left true y h = sym (h refl)
outer_left false true h = refl
outer_left false false h = refl

outer_right : (x y : Bool) → (x ≡ true → y ≡ false) → not y ≡ (not (x || y) || x)
outer_right true y h = ap not (h refl)
outer_right false true h = refl
outer_right false false h = refl

pub leaf_tree : (N : Network) (a : List Pair) (i : ℕ) → i < leaf_count N → tree_at (leaf_count N) a i ≡ Some (leaf i)
unfolding tree_at
leaf_tree N a i h = rw (lt-ltb i (leaf_count N) h)

pub under_leaf : (N : Network) (a : List Pair) (i j : ℕ) → i < leaf_count N → under N a i j ≡ memb j (legs N i)
under_leaf N a i j h = rw (leaf_tree N a i h) (named_leaf N i j h)

module _ (N : Network) (a : List Pair) (v : ℕ) (x : Inner (leaf_count N) a v) where
  pub under_node : (j : ℕ) → under N a v j ≡ (under N a (number x.l) j || under N a (number x.r) j)
  under_node j = rw (x.here, x.on_left, x.on_right) (named-or N (below x.l) (below x.r) j)

  pub wanted_left : (j : ℕ) → wanted N a (number x.l) j ≡ (wanted N a v j || under N a (number x.r) j)
  wanted_left j =
      rw (x.here, x.on_left, x.on_right)
      (ap (λ (b : Bool). memb j N.outputs || b)
      (named_ext N _ _ j (λ i h. outer_left (below x.l i) (below x.r i) (x.apart.0 i))
      ∙ named-or N (λ i. not (below x.l i || below x.r i)) (below x.r) j)
      ∙ sym (or_assoc (memb j N.outputs) _ _))

  pub wanted_right : (j : ℕ) → wanted N a (number x.r) j ≡ (wanted N a v j || under N a (number x.l) j)
  wanted_right j =
      rw (x.here, x.on_left, x.on_right)
      (ap (λ (b : Bool). memb j N.outputs || b)
      (named_ext N _ _ j (λ i h. outer_right (below x.l i) (below x.r i) (x.apart.0 i))
      ∙ named-or N (λ i. not (below x.l i || below x.r i)) (below x.l) j)
      ∙ sym (or_assoc (memb j N.outputs) _ _))

  -- the list of an inner node
  pub listed_node : InRange N → (j : ℕ) → memb j (list_at N a v) ≡ (under N a v j && wanted N a v j)
  unfolding kept
  listed_node ir j =
      rw x.here
      (by_cases (ltb j (index_count N))
      (λ e. memb-keep-range j (index_count N) (kept N (node v x.l x.r)) (ltb-true j (index_count N) e))
      (λ e.
      let b : index_count N ≤ j = ltb-false j (index_count N) e in
      let z : named N (below (node v x.l x.r)) j ≡ false =
      by_cases (named N (below (node v x.l x.r)) j) (λ q. absurd (omega (arith, named_in_range N ir _ j q))) (λ q. q) in
      memb-keep j (kept N (node v x.l x.r)) (range (index_count N)) ∙ rw z))

pub listed_leaf : (N : Network) (a : List Pair) (i j : ℕ) → i < leaf_count N → memb j (list_at N a i) ≡ under N a i j
listed_leaf N a i j h = rw (leaf_tree N a i h) (sym (named_leaf N i j h))

-- at the root only the outputs are wanted
pub wanted-root : (N : Network) (a : List Pair) (t : Tree) → tree_at (leaf_count N) a (root (leaf_count N) a) ≡ Some t → ValidTree (leaf_count N) a t
    → (j : ℕ) → wanted N a (root (leaf_count N) a) j ≡ memb j N.outputs
wanted-root N a t w d j = rw (w, outside_none N t (valid_full N a t d) j) (or-false (memb j N.outputs))

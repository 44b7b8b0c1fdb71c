-- Contraction trees, as arrays of pairs of children; the walk, validity, step order, and sameness of plans. Definitions only.
-- Assumes nothing.
use Rattle.std.specs.Prelude.{Bool, false, not, ◌&&◌, ◌||◌, cond, List, [], ◌∷◌, ◌++◌, ◌≡◌, ℕ, zero, suc, ◌+◌, ◌-◌, ◌≤◌, ◌<◌, eqb, ltb, length, Option, None, Some, slice_get}
use Rattle.spec.specs.Lists.{memb, allb, count, from, range, anyb}

-- a contraction tree, with its node numbers
pub data Tree : Type 0 where
  leaf : ℕ → Tree
  node : ℕ → Tree → Tree → Tree

abbrev pub number : Tree → ℕ
number (leaf i) = i
number (node v l r) = v

-- is leaf i below (or at) the root of the tree
abbrev pub below : Tree → ℕ → Bool
below (leaf k) i = eqb k i
below (node v l r) i = below l i || below r i

-- the node numbers: "Step order is left child, right child, node."
abbrev pub numbers : Tree → List ℕ
numbers (leaf i) = i ∷ []
numbers (node v l r) = numbers l ++ (numbers r ++ (v ∷ []))

-- the inner nodes' numbers in step order
abbrev pub inner : Tree → List ℕ
inner (leaf i) = []
inner (node v l r) = inner l ++ (inner r ++ (v ∷ []))

-- ---- trees as arrays ----

pub record Pair : Type 0 where
  pub left : ℕ
  pub right : ℕ

abbrev pub both : ℕ → Option Tree → Option Tree → Option Tree
both v None y = None
both v (Some l) None = None
both v (Some l) (Some r) = Some (node v l r)

abbrev pub grow : ℕ → Option Pair → (ℕ → Option Tree) → Option Tree
grow v None w = None
grow v (Some p) w = both v (w p.left) (w p.right)

-- The walk from v, over n leaves and the array's inner nodes (node n + j is the array's place j), at most `fuel` nodes deep.
-- It fails where a number is no node's, or the fuel ends.
abbrev pub walk : ℕ → List Pair → ℕ → ℕ → Option Tree
walk n a zero v = None
walk n a (suc fuel) v =
    let below = grow v (slice_get a (v - n)) (λ u. walk n a fuel u) in
    cond (ltb v n) (Some (leaf v)) below

-- the tree below node v. No path of it can have more nodes than the array has inner nodes, and a leaf.
unfoldable pub tree_at : ℕ → List Pair → ℕ → Option Tree
tree_at n a v = walk n a (suc (length a)) v

-- "the root is the last internal node, or 0 if none": with no internal node a valid tree has at most one leaf
abbrev pub root : ℕ → List Pair → ℕ
root n a = n + length a - 1

-- the walk meets every number from 0 to m - 1 once, and no other
abbrev pub meets_all : ℕ → Option Tree → Bool
meets_all m None = false
meets_all m (Some t) = allb (λ v. eqb (count v (numbers t)) 1) (range m) && allb (λ v. ltb v m) (numbers t)

-- "Valid: for n = 0, no internal node; else n−1 internal nodes and a walk from the root meets every node once and no number above the
-- root's."
unfoldable pub valid : ℕ → List Pair → Bool
valid zero a = eqb (length a) 0
valid (suc m) a = eqb (length a) m && meets_all (suc m + length a) (tree_at (suc m) a (root (suc m) a))

abbrev pub inner_of : Option Tree → List ℕ
inner_of None = []
inner_of (Some t) = inner t

-- ---- what it is for an array to describe a tree: no walk, no fuel ----

abbrev pub Describes : ℕ → List Pair → Tree → Type 0
Describes n a (leaf i) = i < n
Describes n a (node v l r) =
    (n ≤ v) × (slice_get a (v - n) ≡ Some (record { left = number l; right = number r })) × Describes n a l × Describes n a r

-- the tree t has the numbers from 0 to the root's, each once
pub record ValidTree (n : ℕ) (a : List Pair) (t : Tree) : Type 0 where
  pub inner : suc (length a) ≡ n
  pub described : Describes n a t
  pub rooted : number t ≡ root n a
  pub met : (v : ℕ) → v < n + length a → count v (numbers t) ≡ 1
  pub above : (v : ℕ) → n + length a ≤ v → memb v (numbers t) ≡ false

-- ---- trees as flat lists ----

-- two places a node
unfoldable pub pairs_of : List ℕ → List Pair
pairs_of [] = []
pairs_of (x ∷ []) = []
pairs_of (x ∷ y ∷ l) = record { left = x; right = y } ∷ pairs_of l

unfoldable pub flat_of : List Pair → List ℕ
flat_of [] = []
flat_of (p ∷ a) = p.left ∷ p.right ∷ flat_of a

-- the inner nodes in step order
unfoldable pub step_order : List ℕ → ℕ → List ℕ
step_order kids n = inner_of (tree_at n (pairs_of kids) (root n (pairs_of kids)))

-- ---- sameness ----

abbrev pub below_of : Option Tree → ℕ → Bool
below_of None i = false
below_of (Some t) i = below t i

-- node v of a and node w of b have the same leaves below
abbrev pub SameLeaves : ℕ → List Pair → List Pair → ℕ → ℕ → Type 0
SameLeaves n a b v w = (i : ℕ) → i < n → below_of (tree_at n a v) i ≡ below_of (tree_at n b w) i

-- each inner node's leaf set in a is the leaf set of an inner node in b
abbrev pub Within : ℕ → List Pair → List Pair → Type 0
Within n a b = (v : ℕ) → n ≤ v → v < n + length a → (w : ℕ) × (n ≤ w) × (w < n + length b) × SameLeaves n a b v w

-- "Two valid trees are the same plan when the leaf sets below their internal nodes coincide."
abbrev pub SamePlan : ℕ → List Pair → List Pair → Type 0
SamePlan n a b = Within n a b × Within n b a

-- the same as a test
abbrev pub agree : Bool → Bool → Bool
agree x y = cond x y (not y)

abbrev pub within : ℕ → List Pair → List Pair → Bool
within n a b =
    allb (λ v. anyb (λ w. allb (λ i. agree (below_of (tree_at n a v) i) (below_of (tree_at n b w) i)) (range n)) (from n (length b)))
    (from n (length a))

unfoldable pub same_plan : ℕ → List Pair → List Pair → Bool
same_plan n a b = within n a b && within n b a

-- b is a with other numbers for the inner nodes: node v of a is node π v of b
pub record Renumbers (n : ℕ) (a b : List Pair) (π : ℕ → ℕ) : Type 0 where
  pub leaves : (i : ℕ) → i < n → π i ≡ i
  pub nodes : (v : ℕ) → n ≤ v → n ≤ π v
  pub pairs : (v : ℕ) (p : Pair) → n ≤ v → slice_get a (v - n) ≡ Some p
      → slice_get b (π v - n) ≡ Some (record { left = π p.left; right = π p.right })
  pub top : π (root n a) ≡ root n b

-- The price list: the indices that a node lists, the steps with their work and size bits, total, widest, slice bits; the indices that
-- a step drops; orders of the steps. Definitions only. Assumes nothing.
use Rattle.std.specs.Prelude.{Bool, true, false, not, ◌&&◌, ◌||◌, cond, List, [], ◌∷◌, map, ◌≡◌, ℕ, ◌+◌, ◌-◌, ◌≤◌, ◌<◌, ◌^◌, max, eqb, ltb, length, get_or, Option, None, Some}
use Rattle.spec.specs.declared.Total.{Total}
use Rattle.spec.specs.declared.Total.TheVariants.{Exact, Beyond}
use Rattle.spec.specs.declared.Prices.{Prices}
use Rattle.spec.specs.Lists.{memb, count, range, keep, sum_of}
use Rattle.spec.specs.Members.{All}
use Rattle.spec.specs.Network.{Network, leaf_count, index_count, weight, legs, named}
use Rattle.spec.specs.Tree.{Tree, leaf, node, below, Pair, tree_at, root, inner_of}

-- ---- what a node lists ----

-- "A node lists each index below it that is an output or also occurs in a leaf outside."
unfoldable pub kept : Network → Tree → ℕ → Bool
kept N t j = named N (below t) j && (memb j N.outputs || named N (λ i. not (below t i)) j)

-- the list of a node: "A leaf lists its indices", in their order; an inner node's are the indices that it keeps, rising
abbrev pub lists : Network → Tree → List ℕ
lists N (leaf i) = legs N i
lists N (node v l r) = keep (kept N (node v l r)) (range (index_count N))

-- ---- steps and their prices ----

-- "step records (node, left, right, work bits, size bits)", each "with its node's list of indices from the price list"
pub record Step : Type 0 where
  pub made : ℕ
  pub left : ℕ
  pub right : ℕ
  pub work_bits : ℕ
  pub size_bits : ℕ
  pub list : List ℕ

abbrev pub lists_of : Network → Option Tree → List ℕ
lists_of N None = []
lists_of N (Some t) = lists N t

-- the price list's entry for node v: its list of indices
abbrev pub list_at : Network → List Pair → ℕ → List ℕ
list_at N a v = lists_of N (tree_at (leaf_count N) a v)

-- the indices of either list, rising
abbrev pub union : Network → List ℕ → List ℕ → List ℕ
union N k l = keep (λ j. memb j k || memb j l) (range (index_count N))

-- the weights of a list: "A sliced index stays listed with weight 0."
abbrev pub bits : Network → (ℕ → Bool) → List ℕ → ℕ
bits N flag [] = 0
bits N flag (j ∷ l) = cond (flag j) 0 (weight N j) + bits N flag l

-- the children of inner node v
abbrev pub children_at : Network → List Pair → ℕ → Pair
children_at N a v = get_or a (v - leaf_count N) (record { left = 0; right = 0 })

-- the step of inner node v: "Size bits: weights of the list. Work bits: weights of the union of both children's lists."
abbrev pub step_at : Network → (ℕ → Bool) → List Pair → ℕ → Step
step_at N flag a v =
    record {
      made = v;
      left = (children_at N a v).left;
      right = (children_at N a v).right;
      work_bits = bits N flag (union N (list_at N a (children_at N a v).left) (list_at N a (children_at N a v).right));
      size_bits = bits N flag (list_at N a v);
      list = list_at N a v;
    }

-- pricing's listing: the steps of the inner nodes in step order
unfoldable pub listing : Network → (ℕ → Bool) → List Pair → List Step
listing N flag a = map (step_at N flag a) (inner_of (tree_at (leaf_count N) a (root (leaf_count N) a)))

-- the listing as a flat list of numbers: node, left, right, work bits, size bits of each step
unfoldable pub flat_steps : List Step → List ℕ
flat_steps [] = []
flat_steps (c ∷ cs) = c.made ∷ c.left ∷ c.right ∷ c.work_bits ∷ c.size_bits ∷ flat_steps cs

-- the price list by node: size bits; work bits, of which a leaf has none
abbrev pub size_at : Network → (ℕ → Bool) → List Pair → ℕ → ℕ
size_at N flag a v = bits N flag (list_at N a v)

abbrev pub work_at : Network → (ℕ → Bool) → List Pair → ℕ → ℕ
work_at N flag a v = cond (ltb v (leaf_count N)) 0 (step_at N flag a v).work_bits

-- the nodes that steps make
abbrev pub made_nodes : List Step → List ℕ
made_nodes l = map (λ c. c.made) l

-- the tables that steps take off: left and right, step after step
abbrev pub taken : List Step → List ℕ
taken [] = []
taken (c ∷ cs) = c.left ∷ c.right ∷ taken cs

-- the sum of 2 to the work bits
abbrev pub work : List Step → ℕ
work l = sum_of (λ c. 2 ^ c.work_bits) l

-- Total: the exact sum of 2 to the work bits, or beyond from 2^53 on.
abbrev pub up_to : ℕ → Total
up_to x = cond (ltb x (2 ^ 53)) (Exact x) Beyond

abbrev pub total : List Step → Total
total l = up_to (work l)

-- the largest number of a list
abbrev pub largest : List ℕ → ℕ
largest [] = 0
largest (x ∷ l) = max x (largest l)

-- "Widest: the largest size, leaves included, or none without leaves."
abbrev pub widest : Network → (ℕ → Bool) → List Step → Option ℕ
widest N flag l =
    cond (eqb (leaf_count N) 0) None
    (Some (max (largest (map (bits N flag) N.leaves)) (largest (map (λ c. c.size_bits) l))))

-- "Slice bits: unsliced weights of the flagged indices."
abbrev pub slice_bits : Network → (ℕ → Bool) → ℕ
slice_bits N flag = bits N (λ j. false) (keep flag (range (index_count N)))

-- what pricing answers beside its listing
abbrev pub price_of : Network → (ℕ → Bool) → List Pair → Prices
price_of N flag a =
    record { total = total (listing N flag a); widest = widest N flag (listing N flag a); slice_bits = slice_bits N flag }

-- does a step drop the index j: one of its children lists it, and its node does not
abbrev pub drops : Network → List Pair → ℕ → Step → Bool
drops N a j c = (memb j (list_at N a c.left) || memb j (list_at N a c.right)) && not (memb j c.list)

-- the indices that a step drops, rising
abbrev pub dropped : Network → List Pair → Step → List ℕ
dropped N a c = keep (λ j. drops N a j c) (range (index_count N))

-- how many steps drop the index j
abbrev pub drop_count : Network → List Pair → ℕ → List Step → ℕ
drop_count N a j l = sum_of (λ c. cond (drops N a j c) 1 0) l

-- ---- orders ----

-- each step's children pass the test `done`, or are made by a step before it
abbrev pub children_first : (ℕ → Bool) → List Step → Bool
children_first done [] = true
children_first done (c ∷ cs) = done c.left && (done c.right && children_first (λ v. done v || eqb v c.made) cs)

-- a list of steps is an order of the array's plan
pub record Orders (N : Network) (flag : ℕ → Bool) (a : List Pair) (l : List Step) : Type 0 where
  -- each step is its node's step
  pub own : All (λ c. c ≡ step_at N flag a c.made) l
  -- each inner node is made once, and no other number is made
  pub once : (v : ℕ) → leaf_count N ≤ v → v < leaf_count N + length a → count v (made_nodes l) ≡ 1
  pub only : (v : ℕ) → memb v (made_nodes l) ≡ true → (leaf_count N ≤ v) × (v < leaf_count N + length a)
  -- each is made after its children that are no leaves
  pub after : children_first (λ v. ltb v (leaf_count N)) l ≡ true

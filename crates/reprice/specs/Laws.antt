-- The tree that stands: it is valid, its array is the one at hand, each of its numbers is a node's, and its total is the sum of the works.
-- Assumes nothing.
use Rattle.std.specs.Prelude.{Bool, false, cond, ◌≡◌, eqb, length, None, Some, slice_get}
use mathlib.Core.List.{List, [], ◌∷◌, map}
use Rattle.std.proofs.Math.Path.{refl, sym, ap}
use Rattle.std.proofs.Common.{◌∙◌, subst, arith, ext_get_or, eqb-true, le-ltb}
use Prim.Native.Nat.{ℕ, ◌+◌, ◌-◌, ◌^◌, ◌≤◌, ◌<◌}
use Rattle.std.proofs.Math.Decide.{dec_le}
use Rattle.std.proofs.Math.ListN.{get_or}
use Rattle.spec.specs.Lists.{count, from, range}
use Rattle.spec.specs.Network.{Network, leaf_count}
use Rattle.spec.specs.Tree.{Tree, leaf, node, number, numbers, Pair, tree_at, pairs_of, step_order, Describes, ValidTree}
use Rattle.spec.specs.Price.{step_at, listing, work}
use Rattle.spec.specs.Calls.{wrong_tree}
use Rattle.spec.specs.Improve.{subtree, children_of, array_for}
use Rattle.laws.specs.Booleans.{by_cases, eqb_sym}
use Rattle.laws.specs.Counts.{sum_same}
use Rattle.laws.specs.ListLaws.{sum_map, from_memb, sum_same_from}
use Rattle.laws.specs.Walks.{Placed, placed_top, valid_placed, valid_tree}
use Rattle.laws.specs.Regions.{count-node, missing}
use Rattle.laws.specs.LayoutLaws.{map_range_at, map_range_length}
use Rattle.laws.specs.MemberLaws.{get_or_there}
use Rattle.walk.specs.Wrong.{not_wrong}
use Rattle.nodesets.specs.Passes.{nodes}
use Rattle.nodesets.specs.Steps.{Steps, valid_steps}
use Rattle.pricing.specs.Sums.{work_sum}
use Rattle.pricing.specs.Tables.{node_counts}
use Rattle.reprice.specs.Held.{or_leaf, tree_of, PriceHeld, Standing}

-- ---- a number is a node's ----

-- the node v of t, as the array has it
pub record Spot (n : ℕ) (a : List Pair) (v : ℕ) (t : Tree) : Type 0 where
  pub s : Tree
  pub name : number s ≡ v
  pub found : subtree v t ≡ Some s
  pub described : Describes n a s
  pub placed : Placed n a s

module _ (n : ℕ) (a : List Pair) (v : ℕ) where
  on_left : (u : ℕ) (l r : Tree) → eqb u v ≡ false → Spot n a v l → Spot n a v (node u l r)
  on_left u l r e x =
      record { s = x.s; name = x.name; found = rw (e, x.found); described = x.described; placed = x.placed }

  on_right : (u : ℕ) (l r : Tree) → eqb u v ≡ false → subtree v l ≡ None → Spot n a v r → Spot n a v (node u l r)
  on_right u l r e f x =
      record { s = x.s; name = x.name; found = rw (e, f, x.found); described = x.described; placed = x.placed }

  pub spot : (t : Tree) → Describes n a t → Placed n a t → 1 ≤ count v (numbers t) → Spot n a v t
  spot (leaf i) d p h =
      by_cases (eqb i v)
      (λ e. record { s = leaf i; name = eqb-true i v e; found = rw e; described = d; placed = p })
      (λ e. absurd (let z : count v (i ∷ []) ≡ 0 = rw (eqb_sym v i, e) in omega arith))
  spot (node u l r) d p h =
      by_cases (eqb u v)
      (λ e. record { s = node u l r; name = eqb-true u v e; found = rw e; described = d; placed = p })
      (λ e. elim (dec_le 1 (count v (numbers l))) [
        | yes k ↦ on_left u l r e (spot l d.2 p.1 k)
        | no k ↦ on_right u l r e (missing v l (omega arith))
            (spot r d.3 p.2 (let z : ◌≡◌ {A = ℕ} (cond (eqb v u) 1 0) 0 = rw (eqb_sym v u, e) in omega (arith, count-node v u l r)))
      ])

-- of a valid tree
pub valid_spot : (n : ℕ) (a : List Pair) (t : Tree) → ValidTree n a t → (v : ℕ) → v < n + length a → Spot n a v t
valid_spot n a t d v h = spot n a v t d.described (valid_placed n a t d) (omega (arith, d.met v h))

-- ---- the array of a valid tree ----

pub array_of : (n : ℕ) (a : List Pair) (t : Tree) → ValidTree n a t → array_for n t ≡ a
unfolding array_for
array_of n a t d =
    let z : length (map (λ j. children_of (subtree (n + j) t)) (range (n - 1))) ≡ n - 1 = map_range_length (λ j. children_of (subtree (n + j) t)) (n - 1) in
    ext_get_or (children_of None) (map (λ j. children_of (subtree (n + j) t)) (range (n - 1))) a (omega (arith, d.inner)) (λ j h.
    map_range_at (λ j. children_of (subtree (n + j) t)) (children_of None) (n - 1) j (omega arith)
    ∙ at j (valid_spot n a t d (n + j) (omega (arith, d.inner))))
  where
    here : (j : ℕ) (s : Tree) → number s ≡ n + j → Describes n a s → children_of (Some s) ≡ get_or a j (children_of None)
    here j (leaf i) e h = absurd (omega arith)
    here j (node v l r) e h =
        sym (get_or_there a j _ (children_of None) (ap (slice_get a) (let z : j ≡ v - n = omega arith in z) ∙ h.1))

    at : (j : ℕ) → Spot n a (n + j) t → children_of (subtree (n + j) t) ≡ get_or a j (children_of None)
    at j x = ap children_of x.found ∙ here j x.s x.name x.described

-- ---- what stands ----

-- the tree of a valid array
pub tree_of_lem : (n : ℕ) (kids : List ℕ) (t : Tree) → ValidTree n (pairs_of kids) t → tree_of n kids ≡ t
unfolding tree_of
tree_of_lem n kids t d =
    ap or_leaf (ap (tree_at n (pairs_of kids)) (sym d.rooted) ∙ placed_top n (pairs_of kids) t (valid_placed n (pairs_of kids) t d))

pub right_valid : (n : ℕ) (kids : List ℕ) → 1 ≤ n → wrong_tree n kids ≡ false → ValidTree n (pairs_of kids) (tree_of n kids)
right_valid n kids one e =
    let (t, w, ok) = valid_tree n (pairs_of kids) one (not_wrong n kids e) in
    subst (ValidTree n (pairs_of kids)) (sym (tree_of_lem n kids t ok)) ok

module _ {N : Network} {flag : ℕ → Bool} {kids sets sizes works : List ℕ} (one : 1 ≤ leaf_count N) (s : Standing N flag kids sets sizes works) where
  pub standing_valid : ValidTree (leaf_count N) (pairs_of kids) (tree_of (leaf_count N) kids)
  standing_valid = right_valid (leaf_count N) kids one s.right

  pub standing_array : array_for (leaf_count N) (tree_of (leaf_count N) kids) ≡ pairs_of kids
  standing_array = array_of (leaf_count N) (pairs_of kids) (tree_of (leaf_count N) kids) standing_valid

-- ---- the total ----

module _ {N : Network} {flag : ℕ → Bool} {kids sets sizes works : List ℕ} (right : wrong_tree (leaf_count N) kids ≡ false) (h : PriceHeld N flag kids sets sizes works) where
  work_at_lem : (v : ℕ) → leaf_count N ≤ v → v < leaf_count N + (leaf_count N - 1) → get_or works v 0 ≡ (step_at N flag (pairs_of kids) v).work_bits
  work_at_lem v b c = h.works_are v c ∙ rw (le-ltb v (leaf_count N) b)

  pub total_held : work_sum works (leaf_count N) (leaf_count N - 1) ≡ work (listing N flag (pairs_of kids))
  unfolding work_sum listing step_order
  total_held =
      let n : ℕ = leaf_count N in
      let order : List ℕ = step_order kids n in
      let s : Steps n kids order = valid_steps n kids order (not_wrong n kids right) refl in
      sum_same_from (λ v. 2 ^ get_or works v 0) (λ v. 2 ^ (step_at N flag (pairs_of kids) v).work_bits) n (n - 1)
      (λ v b c. ap (λ (y : ℕ). 2 ^ y) (work_at_lem v b c))
      ∙ sum_same (nodes n kids) (λ v. 2 ^ (step_at N flag (pairs_of kids) v).work_bits) (from n (n - 1)) order
      (λ v e. omega (arith, s.numbers, from_memb v n (n - 1) e))
      (λ v e. (s.inner v e).1)
      (node_counts (n - 1) s s.numbers)
      ∙ sym (sum_map (λ c. 2 ^ c.work_bits) (step_at N flag (pairs_of kids)) order)

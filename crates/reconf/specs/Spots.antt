-- What the lent lists say of a node's subtree and of its frontier's members: children, work bits, lists of indices. Assumes nothing.
use Rattle.std.specs.Prelude.{Bool, true, ◌≡◌, ℕ, zero, suc, ◌+◌, ◌-◌, ◌≤◌, ◌<◌, length, Option, None, Some}
use mathlib.Core.List.{List, [], ◌∷◌}
use Rattle.std.proofs.lemmas.Option.{same_Some}
use Rattle.std.proofs.Common.{sym, ◌∙◌, arith, le-ltb}
use Rattle.std.proofs.Math.Path.{ap, ap₂}
use Rattle.spec.specs.Lists.{memb, range}
use Rattle.spec.specs.Members.{All}
use Rattle.spec.specs.Network.{Network, leaf_count, index_count, InRange}
use Rattle.spec.specs.Tree.{Tree, leaf, node, number, Pair, pairs_of, Describes, ValidTree}
use Rattle.spec.specs.Price.{lists, lists_of, list_at, kept, bits, union, step_at}
use Rattle.spec.specs.Improve.{weigh, work_of, Front, MostWork, swap_remove, member, open_node, open_at, most_work, expand, frontier}
use Rattle.laws.specs.Booleans.{and_right}
use Rattle.laws.specs.ListLaws.{memb-keep, from_memb}
use Rattle.laws.specs.MemberLaws.{all_append, got_within}
use Rattle.laws.specs.Arrays.{children_are}
use Rattle.laws.specs.Walks.{Placed, placed_top, valid_placed}
use Rattle.laws.specs.FlatLaws.{pair_at, left_of, right_of}
use Rattle.slots.specs.Slots.{held}
use Rattle.frontier.specs.Fronts.{Read}
use Rattle.frontier.specs.Swaps.{all_swap}
use Rattle.reprice.specs.Held.{tree_of, PriceHeld, Standing}
use Rattle.reprice.specs.Laws.{standing_valid}

-- ---- what all members of a frontier have ----

-- what a node has, its children have
module _ (P : Tree → Type 0) (left : (v : ℕ) (l r : Tree) → P (node v l r) → P l) (right : (v : ℕ) (l r : Tree) → P (node v l r) → P r) (none_has : P (leaf 0)) where
  pub member_all : (ms : List Tree) → All P ms → (p : ℕ) → P (member ms p)
  member_all [] h p = none_has
  member_all (t ∷ ms) h zero = h.0
  member_all (t ∷ ms) h (suc p) = member_all ms h.1 p

  node_all : (fr : Front) (p : ℕ) (t : Tree) → P t → All P fr.members → All P (open_node fr p t).members
  node_all fr p (leaf i) d h = h
  node_all fr p (node v l r) d h =
      all_append P (swap_remove p fr.members) (l ∷ r ∷ []) (all_swap P p fr.members h) (left v l r d, (right v l r d, tt))

  at_all : (fr : Front) (o : Option MostWork) → All P fr.members → All P (open_at fr o).members
  at_all fr None h = h
  at_all fr (Some s) h = node_all fr s.place (member fr.members s.place) (member_all fr.members h s.place) h

  expand_all : (N : Network) (flag : ℕ → Bool) (times : ℕ) (fr : Front) → All P fr.members → All P (expand N flag times fr).members
  expand_all N flag zero fr h = h
  expand_all N flag (suc times) fr h =
      expand_all N flag times (open_at fr (most_work N flag None 0 fr.members)) (at_all fr (most_work N flag None 0 fr.members) h)

  pub frontier_has : (N : Network) (flag : ℕ → Bool) (k : ℕ) (t : Tree) → P t → (p : ℕ) → P (member (frontier N flag k t).members p)
  unfolding frontier
  frontier_has N flag k t d p =
      member_all (expand N flag (k - 1) (record { members = t ∷ []; opened = [] })).members
      (expand_all N flag (k - 1) (record { members = t ∷ []; opened = [] }) (d, tt)) p

-- ---- lists of indices are in range ----

pub lists_below : (N : Network) → InRange N → (a : List Pair) (t : Tree) → Describes (leaf_count N) a t → (j : ℕ) → memb j (lists N t) ≡ true → j < index_count N
lists_below N h a (leaf i) d j e = h i j d e
lists_below N h a (node v l r) d j e =
    omega (arith, from_memb j 0 (index_count N) (and_right (kept N (node v l r) j) (memb j (range (index_count N))) (sym (memb-keep j (kept N (node v l r)) (range (index_count N))) ∙ e)))

-- ---- children and work bits ----

module _ {N : Network} {flag : ℕ → Bool} {kids sets sizes works : List ℕ} (h : PriceHeld N flag kids sets sizes works)
    (long : length (pairs_of kids) ≡ leaf_count N - 1)
  where
    abbrev n : ℕ
    n = leaf_count N

    abbrev a : List Pair
    a = pairs_of kids

    list_at_lem : (t : Tree) → Placed n a t → list_at N a (number t) ≡ lists N t
    list_at_lem t p = ap (lists_of N) (placed_top n a t p)

    step_work : (v : ℕ) (l r : Tree) → Describes n a (node v l r) → Placed n a (node v l r) → (step_at N flag a v).work_bits ≡ work_of N flag (node v l r)
    unfolding weigh
    step_work v l r d p =
        ap (λ (c : Pair). bits N flag (union N (list_at N a c.left) (list_at N a c.right))) (children_are N a v l r d)
        ∙ ap₂ (λ x y. bits N flag (union N x y)) (list_at_lem l p.1) (list_at_lem r p.2)

    below_places : (t : Tree) → Describes n a t → number t < n + (n - 1)
    below_places (leaf i) d = omega (arith, d)
    below_places (node v l r) d = omega (arith, d.0, got_within a (v - n) _ d.1)

    -- the node's slot has its list
    pub slot_has : (t : Tree) → Describes n a t → Placed n a t → (j : ℕ) → j < 256 → held sets 4 (number t) j ≡ memb j (lists N t)
    slot_has t d p j b = h.sets_are (number t) j (below_places t d) b ∙ ap (memb j) (list_at_lem t p)

    pub reads : (t : Tree) → Describes n a t → Placed n a t → Read N flag kids works n t
    reads (leaf i) d p = d
    reads (node v l r) d p =
        let b : v - n < length a = got_within a (v - n) _ d.1 in
        let e : ◌≡◌ {A = Pair} (record { left = left_of kids n v; right = right_of kids n v }) (record { left = number l; right = number r }) =
        same_Some _ _ (sym (pair_at kids (v - n) b) ∙ d.1) in (
          d.0,
          ap (λ (c : Pair). c.left) e,
          ap (λ (c : Pair). c.right) e,
          h.works_are v (below_places (node v l r) d) ∙ rw (le-ltb v (leaf_count N) d.0) (step_work v l r d p),
          reads l d.2 p.1,
          reads r d.3 p.2,
        )

-- the whole tree that stands
pub standing_read : {N : Network} {flag : ℕ → Bool} {kids sets sizes works : List ℕ} → 1 ≤ leaf_count N → Standing N flag kids sets sizes works
    → Read N flag kids works (leaf_count N) (tree_of (leaf_count N) kids)
standing_read {N} {flag} {kids} {sets} {sizes} {works} one s =
    let d : ValidTree (leaf_count N) (pairs_of kids) (tree_of (leaf_count N) kids) = standing_valid one s in
    reads s.prices (omega (arith, d.inner)) (tree_of (leaf_count N) kids) d.described (valid_placed (leaf_count N) (pairs_of kids) (tree_of (leaf_count N) kids) d)

-- The visit of a node on lists: its subtree, its frontier as the lists have it, what its opened nodes cost; it is left, stays or is rebuilt.
-- Assumes nothing.
use Rattle.std.specs.Prelude.{Bool, true, false, not, ◌||◌, List, ◌≡◌, refl, ℕ, suc, ◌+◌, ◌-◌, ◌%◌, ◌^◌, ◌≤◌, ◌<◌, eqb, length, get_or, set, take, Option}
use Rattle.std.proofs.Common.{sym, ap₂, ◌∙◌, subst, arith, get_or-take}
use Rattle.std.proofs.Math.Path.{ap}
use Rattle.std.proofs.lemmas.List.{length-map}
use Rattle.spec.specs.Lists.{memb}
use Rattle.spec.specs.Network.{Network, leaf_count, index_count, weight}
use Rattle.spec.specs.NetworkClaims.{Accepted}
use Rattle.spec.specs.Tree.{Tree, leaf, number, Pair, pairs_of, valid, Describes, ValidTree}
use Rattle.spec.specs.Price.{lists, listing, work}
use Rattle.spec.specs.Calls.{flag_at, wrong_tree, total_is_beyond}
use Rattle.spec.specs.Improve.{Front, member, graft, work_of, frontier, old_cost, Visited, untouched, reconf_node, visit_at, visit}
use Rattle.laws.specs.Booleans.{or_none}
use Rattle.laws.specs.Regions.{Swapped, graft_swapped, swapped_part}
use Rattle.laws.specs.Rebuilds.{FrontOf, front_of}
use Rattle.laws.specs.Arrays.{valid_once}
use Rattle.laws.specs.Walks.{Placed, describes_placed, tree_valid as valid_array}
use Rattle.laws.specs.TreePrices.{total_below}
use Rattle.laws.specs.ImprovedWork.{listing_work, not_beyond}
use Rattle.laws.specs.VisitSplits.{members_most}
use Rattle.slots.specs.Slots.{held}
use Rattle.frontier.specs.Opens.{State, state, openings}
use Rattle.frontier.specs.Costs.{cost_below}
use Rattle.frontier.specs.Fronts.{Fronts, frontier_fronts, fronts_cost}
use Rattle.frontier.specs.Swaps.{number_at}
use Rattle.reprice.specs.Held.{tree_of, PriceHeld}
use Rattle.reprice.specs.Laws.{Spot, valid_spot, right_valid, tree_of_lem}
use Rattle.reconf.specs.Grafts.{swapped_same}
use Rattle.reconf.specs.Visits.{Reconfs}
use Rattle.reconf.specs.Spots.{frontier_has, lists_below, slot_has, reads}

-- what a visit asks of the lists: an accepted network's weights, a valid tree, its price list, a total that is not beyond
pub record Visitable (N : Network) (n : ℕ) (weights flags kids sets works : List ℕ) : Type 0 where
  pub sizes : List ℕ
  pub leaves : leaf_count N ≡ n
  pub accepted : Accepted N
  pub weighs : (j : ℕ) → j < index_count N → get_or weights j 0 ≡ weight N j
  pub right : wrong_tree (leaf_count N) kids ≡ false
  pub prices : PriceHeld N (flag_at flags) kids sets sizes works
  pub total : total_is_beyond N (flag_at flags) (pairs_of kids) ≡ false

-- a list of the same length, with a valid array, is no wrong tree
still_right : (n : ℕ) (kids kids' : List ℕ) → length kids' ≡ length kids → wrong_tree n kids ≡ false → valid n (pairs_of kids') ≡ true → wrong_tree n kids' ≡ false
still_right n kids kids' e h v =
    let (odd, z) = or_none (eqb (length kids % 2) 1) (not (valid n (pairs_of kids))) h in
    ap₂ (λ x y. eqb (x % 2) 1 || not y) e v ∙ ap (λ x. x || false) odd

module _ {N : Network} {x : ℕ} {weights flags kids sets works : List ℕ} (h : Visitable N x weights flags kids sets works)
    (v : ℕ) (inside : v < leaf_count N + (leaf_count N - 1)) (k : ℕ)
  where
    abbrev pub n : ℕ
    n = leaf_count N

    abbrev pub a : List Pair
    a = pairs_of kids

    abbrev pub flag : ℕ → Bool
    flag = flag_at flags

    abbrev pub t : Tree
    t = tree_of (leaf_count N) kids

    pub tree_valid : ValidTree n a t
    tree_valid = right_valid (leaf_count N) kids (omega arith) h.right

    pub spot : Spot n a v t
    spot = valid_spot n a t tree_valid v (omega (arith, tree_valid.inner))

    long : length a ≡ leaf_count N - 1
    long = omega (arith, tree_valid.inner)

    abbrev pub fr : Front
    fr = frontier N flag k spot.s

    pub front : FrontOf N flag spot.s fr
    front = front_of N flag k spot.s

    -- ---- the members ----

    pub described : (p : ℕ) → Describes n a (member fr.members p)
    described p = frontier_has (Describes n a) (λ v l r d. d.2) (λ v l r d. d.3) (omega arith) N flag k spot.s spot.described p

    placed : (p : ℕ) → Placed n a (member fr.members p)
    placed p =
        frontier_has (Placed n a) (λ v l r d. d.1) (λ v l r d. d.2) (describes_placed n a (leaf 0) (omega arith) (omega arith)) N flag k spot.s spot.placed p

    pub ranged : (p j : ℕ) → memb j (lists N (member fr.members p)) ≡ true → j < index_count N
    ranged p j e = lists_below N h.accepted.in_range a (member fr.members p) (described p) j e

    pub root_has : (j : ℕ) → j < 256 → held sets 4 v j ≡ memb j (lists N spot.s)
    root_has j b =
        ap (λ u. held sets 4 u j) (sym spot.name) ∙ slot_has h.prices long spot.s spot.described spot.placed j b

    -- ---- the lists of numbers ----

    module _ (members₀ opened₀ members opened : List ℕ) (m : ℕ) (one : 1 ≤ k) (room : k ≤ length members₀) (room_opened : k ≤ suc (length opened₀))
        (st : state members opened m ≡ openings kids works n (k - 1) (state (set members₀ 0 v) opened₀ 1))
      where
        pub fronts : Fronts N flag kids works n (state members opened m) fr
        fronts =
            subst (λ (z : State). Fronts N flag kids works n z fr) (ap (λ u. openings kids works n (k - 1) (state (set members₀ 0 u) opened₀ 1)) spot.name ∙ sym st)
            (frontier_fronts N flag kids works n k spot.s members₀ opened₀ one room room_opened (reads h.prices long spot.s spot.described spot.placed))

        pub count_is : m ≡ length fr.members
        count_is = fronts.count

        pub count_most : m ≤ k
        count_most = omega (arith, fronts.count, members_most N flag k spot.s one)

        pub count_some : 1 ≤ m
        count_some = omega (arith, fronts.opens)

        -- as many are taken of the list
        pub taken : length (take m members) ≡ m
        taken = ap length fronts.members ∙ length-map fr.members number ∙ sym fronts.count

        pub taken_names : (p : ℕ) → get_or (take m members) p 0 ≡ number (member fr.members p)
        taken_names p = ap (λ z. get_or z p 0) fronts.members ∙ number_at fr.members p

        pub names : (p : ℕ) → p < m → get_or members p 0 ≡ number (member fr.members p)
        names p b = sym (get_or-take m members p 0 b) ∙ taken_names p

        pub taken_has : (p j : ℕ) → p < length fr.members → j < 256 → held sets 4 (get_or (take m members) p 0) j ≡ memb j (lists N (member fr.members p))
        taken_has p j b c =
            ap (λ u. held sets 4 u j) (taken_names p)
            ∙ slot_has h.prices long (member fr.members p) (described p) (placed p) j c

        pub has : (p j : ℕ) → p < length fr.members → j < 256 → held sets 4 (get_or members p 0) j ≡ memb j (lists N (member fr.members p))
        has p j b c = ap (λ u. held sets 4 u j) (sym (get_or-take m members p 0 (omega (arith, fronts.count)))) ∙ taken_has p j b c

        -- ---- the cost of the opened nodes ----

        pub cost_is : cost_below works opened (m - 1) ≡ old_cost N flag fr.opened
        cost_is = fronts_cost N flag kids works n (state members opened m) fr fronts

        same : Swapped spot.s spot.s t (graft v spot.s t)
        same = graft_swapped v spot.s t spot.s (valid_once n a t tree_valid v) spot.found

        pub cost_small : cost_below works opened (m - 1) < 9007199254740992
        cost_small =
            omega (
              arith,
              cost_is,
              front.sums (total_below N flag) (λ u. 2 ^ work_of N flag u) (λ v l r. omega arith),
              swapped_part (total_below N flag) (λ v l r. omega arith) same,
              listing_work N flag a t tree_valid,
              not_beyond (work (listing N flag a)) h.total,
            )

    -- ---- the definition's visit ----

    unchanged : graft v spot.s t ≡ t
    unchanged = swapped_same (graft_swapped v spot.s t spot.s (valid_once n a t tree_valid v) spot.found)

    module _ (limit : Option ℕ) where
      visit_is : (d : Visited) → reconf_node N flag limit spot.s fr ≡ d
          → visit N flag k limit v t ≡ record { tree = graft v d.tree t; rebuilt = d.rebuilt; tried = d.tried }
      unfolding visit
      visit_is d e =
          ap (visit_at N flag k limit v t) spot.found
          ∙ ap (λ (x : Visited). record { tree = graft v x.tree t; rebuilt = x.rebuilt; tried = x.tried }) e

      -- the node's region stays
      pub stays : (j : ℕ) → reconf_node N flag limit spot.s fr ≡ untouched j spot.s → Reconfs N flag k limit v kids kids 0 j
      stays j e =
          let z = visit_is (untouched j spot.s) e in
          record {
            right = h.right;
            tree = sym (ap (λ (x : Visited). x.tree) z ∙ unchanged);
            is_rebuilt = sym (ap (λ (x : Visited). x.rebuilt) z);
            is_tried = sym (ap (λ (x : Visited). x.tried) z);
            same = λ q. refl;
          }

      -- it is rebuilt, in a list that then has the grafted tree
      pub changes : (new : Tree) (j : ℕ) (kids' : List ℕ) → length kids' ≡ length kids
          → reconf_node N flag limit spot.s fr ≡ record { tree = new; rebuilt = 1; tried = j }
          → ValidTree n (pairs_of kids') (graft v new t) → Reconfs N flag k limit v kids kids' 1 j
      changes new j kids' long e d =
          let z = visit_is (record { tree = new; rebuilt = 1; tried = j }) e in
          record {
            right = still_right n kids kids' long h.right (valid_array n (pairs_of kids') (graft v new t) d);
            tree = tree_of_lem n kids' (graft v new t) d ∙ sym (ap (λ (x : Visited). x.tree) z);
            is_rebuilt = sym (ap (λ (x : Visited). x.rebuilt) z);
            is_tried = sym (ap (λ (x : Visited). x.tried) z);
            same = λ q. absurd (omega arith);
          }

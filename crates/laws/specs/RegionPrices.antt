-- LAW I4: pricing gives the nodes of a region its old cost, and after the rebuild the search's best. Assumes nothing.
use Rattle.std.specs.Prelude.{◌≡◌, refl, Bool, true, cond, List, [], ◌∷◌, ◌++◌, map, ℕ, ◌+◌, ◌^◌, ◌≤◌, ◌<◌, eqb, length, Option, Some}
use Rattle.std.proofs.Common.{ap, ◌∙◌, arith, eqb-true, eq-eqb}
use Rattle.spec.specs.Lists.{memb, count, range, sum_of}
use Rattle.spec.specs.Network.{Network, leaf_count, index_count}
use Rattle.spec.specs.Tree.{Tree, leaf, node, number, numbers, inner, Pair, Describes, ValidTree}
use Rattle.spec.specs.Price.{lists, kept}
use Rattle.spec.specs.Improve.{weigh, work_of, Region, one, join, Found, Front, member, popped, build, graft, frontier, old_cost, searched, array_for}
use Rattle.spec.specs.ImproveClaims.{BestIsPriced, BestBelow}
use Rattle.laws.specs.Booleans.{by_cases}
use Rattle.laws.specs.ListLaws.{from_memb, range_length, sum_append}
use Rattle.laws.specs.Walks.{Placed, valid_placed}
use Rattle.laws.specs.Arrays.{Once, valid_once}
use Rattle.laws.specs.TreePrices.{total_below}
use Rattle.laws.specs.Regions.{count-node, sum_places, over, Swapped, here, on_left, on_right, graft_swapped, swapped_part, swapped_number, swapped_sum}
use Rattle.laws.specs.Searches.{Over, best_over, best_bounded, over_joins, over_sum}
use Rattle.laws.specs.Rebuilds.{Kept, FrontOf, front_of, build_kept}
use Rattle.laws.specs.Costs.{NoDangling, listed_kept, singles_kept, built_total}
use Rattle.laws.specs.ImprovedValid.{kept_valid, tree_at_lem}
use Rattle.laws.specs.ImprovedWork.{node_work, work_at, tree_work, no_dangling, some_leaf}

-- ---- parts of a tree that an array describes ----

-- the array has the tree, node by node
abbrev Has : ℕ → List Pair → Tree → Type 0
Has n a t = Describes n a t × Placed n a t

has_parts : (n : ℕ) (a : List Pair) (v : ℕ) (l r : Tree) → Has n a (node v l r) → Has n a l × Has n a r
has_parts n a v l r h = ((h.0.2, h.1.1), (h.0.3, h.1.2))

old_part : (n : ℕ) (a : List Pair) {s₀ s t t' : Tree} → Swapped s₀ s t t' → Has n a t → Has n a s₀
old_part n a here h = h
old_part n a (on_left {u = u} {l = l} {r = r} w) h = old_part n a w (has_parts n a u l r h).0
old_part n a (on_right {u = u} {l = l} {r = r} w) h = old_part n a w (has_parts n a u l r h).1

new_part : (n : ℕ) (a : List Pair) {s₀ s t t' : Tree} → Swapped s₀ s t t' → Has n a t' → Has n a s
new_part n a here h = h
new_part n a (on_left {u = u} {l' = l'} {r = r} w) h = new_part n a w (has_parts n a u l' r h).0
new_part n a (on_right {u = u} {l = l} {r' = r'} w) h = new_part n a w (has_parts n a u l r' h).1

popped_parts : (n : ℕ) (a : List Pair) (sl : List ℕ) (l r : Tree) → Has n a (popped sl l r).tree → Has n a l × Has n a r
popped_parts n a [] l r h = has_parts n a 0 l r h
popped_parts n a (v ∷ sl) l r h = has_parts n a v l r h

-- ---- the work that pricing gives the nodes of a tree ----

module _ (N : Network) (flag : ℕ → Bool) (a : List Pair) where
  abbrev priced_below : Tree → ℕ
  priced_below t = sum_of (work_at N flag a) (inner t)

  priced_adds : (v : ℕ) (l r : Tree) → priced_below (node v l r) ≡ work_at N flag a v + (priced_below l + priced_below r)
  priced_adds v l r = omega (arith, sum_append (work_at N flag a) (inner l) (inner r ++ (v ∷ [])), sum_append (work_at N flag a) (inner r) (v ∷ []))

  -- the members of a built tree
  members_priced : (ms : List Tree) (x : Region) (sl : List ℕ) → Has (leaf_count N) a (build ms x sl).tree
      → over (λ p. priced_below (member ms p)) x ≡ over (λ p. total_below N flag (member ms p)) x
  members_priced ms (one p) sl h = tree_work N flag a (member ms p) h.0 h.1
  members_priced ms (join x y) sl h =
      let (p, q) = popped_parts (leaf_count N) a (build ms y (build ms x sl).slots).slots (build ms x sl).tree (build ms y (build ms x sl).slots).tree h in
      omega (arith, members_priced ms x sl p, members_priced ms y (build ms x sl).slots q)

  -- nodes of whose work the tree says other than pricing: none
  abbrev is_odd : Tree → ℕ
  is_odd t = cond (eqb (work_at N flag a (number t)) (2 ^ work_of N flag t)) 0 1

  abbrev odds : Tree → ℕ
  odds (leaf i) = 0
  odds (node v l r) = is_odd (node v l r) + (odds l + odds r)

  no_odds : (t : Tree) → Has (leaf_count N) a t → odds t ≡ 0
  no_odds (leaf i) h = refl
  no_odds (node v l r) h =
      let (p, q) = has_parts (leaf_count N) a v l r h in
      let e : is_odd (node v l r) ≡ 0 =
      ap (λ b. cond b 0 1) (eq-eqb (work_at N flag a v) (2 ^ work_of N flag (node v l r)) (ap (λ k. 2 ^ k) (node_work N flag a v l r h.0 h.1.1 h.1.2))) in
      omega (arith, no_odds l p, no_odds r q)

  even_sums : (ts : List Tree) → sum_of is_odd ts ≡ 0 → sum_of (λ u. work_at N flag a (number u)) ts ≡ old_cost N flag ts
  even_sums [] e = refl
  even_sums (t ∷ ts) e =
      by_cases (eqb (work_at N flag a (number t)) (2 ^ work_of N flag t))
      (λ q. omega (arith, eqb-true (work_at N flag a (number t)) (2 ^ work_of N flag t) q, even_sums ts (omega arith)))
      (λ q. absurd (let z : is_odd t ≡ 1 = ap (λ b. cond b 0 1) q in omega arith))

  opened_priced : (t : Tree) (fr : Front) → FrontOf N flag t fr → Has (leaf_count N) a t
      → sum_of (λ u. work_at N flag a (number u)) fr.opened ≡ old_cost N flag fr.opened
  opened_priced t fr o h = even_sums fr.opened (omega (arith, o.sums odds is_odd (λ v l r. refl), no_odds t h))

-- ---- a region, rebuilt as the search says ----

module _ (N : Network) (flag : ℕ → Bool) (k : ℕ) (limit : Option ℕ) (t : Tree) (fr : Front) (o : FrontOf N flag t fr)
    (f : Found) (found : searched N flag limit t fr ≡ Some f) (many : 3 ≤ length fr.members)
  where
    abbrev rebuilt : Tree
    rebuilt = (build fr.members f.tree (map number fr.opened)).tree

    is_over : Over (length fr.members) (λ p j. memb j (lists N (member fr.members p))) (λ j. memb j (lists N t)) (weigh N flag) limit
        (range (length fr.members)) f.tree f.cost
    is_over = best_over (length fr.members) _ _ _ limit (length fr.members) (range (length fr.members)) f found

    over_members : (g : ℕ → ℕ) → over g f.tree ≡ sum_of g (range (length fr.members))
    over_members g = over_sum (length fr.members) _ _ _ limit g is_over

    rebuilt_kept : Kept t rebuilt
    rebuilt_kept =
        build_kept N flag k limit t fr o f.tree
        (over_joins (length fr.members) _ _ _ limit is_over ∙ range_length 0 (length fr.members)) (omega arith) over_members

    module _ (shared : NoDangling N) (once : Once t) where
      rebuilt_total : total_below N flag rebuilt ≡ f.cost + sum_of (total_below N flag) fr.members
      rebuilt_total =
          let all : (j : ℕ) → j < index_count N → memb j (lists N t) ≡ kept N t j = listed_kept N shared t in
          let fits : (p : ℕ) → memb p (range (length fr.members)) ≡ true → p < length fr.members =
          λ p e. omega (arith, from_memb p 0 (length fr.members) e) in
          omega (
            arith,
            built_total N flag t fr o once all limit (singles_kept N flag t fr o once all shared limit) is_over fits (map number fr.opened),
            sum_places (total_below N flag) fr.members,
          )

      rebuilt_priced : (a : List Pair) → Has (leaf_count N) a rebuilt → sum_of (λ u. work_at N flag a (number u)) fr.opened ≡ f.cost
      rebuilt_priced a h =
          omega (
            arith,
            o.sums (priced_below N flag a) (λ u. work_at N flag a (number u)) (priced_adds N flag a),
            rebuilt_kept.sums (priced_below N flag a) (work_at N flag a) (priced_adds N flag a),
            tree_work N flag a rebuilt h.0 h.1,
            rebuilt_total,
            members_priced N flag a fr.members f.tree (map number fr.opened) h,
            over_members (λ p. priced_below N flag a (member fr.members p)),
            over_members (λ p. total_below N flag (member fr.members p)),
            sum_places (priced_below N flag a) fr.members,
            sum_places (total_below N flag) fr.members,
          )

-- LAW I4
pub best_is_priced : BestIsPriced
best_is_priced N flag k limit a t s v f h l e q m found =
    let fr : Front = frontier N flag k s in
    let o : FrontOf N flag s fr = front_of N flag k s in
    let d : ValidTree (leaf_count N) a t = tree_at_lem (leaf_count N) a t (some_leaf (leaf_count N) a t h e) h e in
    let u : Tree = (build fr.members f.tree (map number fr.opened)).tree in
    let w : Swapped s u t (graft v u t) = graft_swapped v u t s (valid_once (leaf_count N) a t d v) q in
    let once : Once s =
    λ j. omega (arith, swapped_part (λ t. count j (numbers t)) (λ v l r. omega (arith, count-node j v l r)) w, valid_once (leaf_count N) a t d j) in
    let x : Kept s u = rebuilt_kept N flag k limit s fr o f found m in
    let y : Kept t (graft v u t) =
    record { root = swapped_number x.root w; sums = λ g c adds. swapped_sum g c adds (x.sums g c adds) w } in
    let d' : ValidTree (leaf_count N) (array_for (leaf_count N) (graft v u t)) (graft v u t) = kept_valid (leaf_count N) a t (graft v u t) d y in
    record {
      before = opened_priced N flag a s fr o (old_part (leaf_count N) a w (d.described, valid_placed (leaf_count N) a t d));
      after = rebuilt_priced N flag k limit s fr o f found m (no_dangling N l) once (array_for (leaf_count N) (graft v u t))
          (new_part (leaf_count N) _ w (d'.described, valid_placed (leaf_count N) _ (graft v u t) d'));
    }

-- of LAW I5
pub best_below : BestBelow
best_below N flag limit t fr f e =
    best_bounded (length fr.members) _ _ _ limit (length fr.members) (range (length fr.members)) f e

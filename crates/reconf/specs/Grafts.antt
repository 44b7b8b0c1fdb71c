-- A region rebuilt in the array: it then has the tree with the region grafted, which is valid again. Assumes nothing.
use Rattle.std.specs.Prelude.{Bool, cond, List, [], ◌∷◌, map, ◌≡◌, refl, ℕ, suc, ◌+◌, ◌-◌, ◌≤◌, ◌<◌, eqb, length, get_or, None}
use Rattle.std.proofs.Common.{ap, ap₂, ◌∙◌, lt_of_not-le, arith, eqb-true}
use Rattle.std.proofs.lemmas.List.{length-map}
use mathlib.Mathlib.Data.Bool.Basic.{eq-false_of_not-eq-true}
use Rattle.spec.specs.Lists.{count, range, sum_of}
use Rattle.spec.specs.Members.{All}
use Rattle.spec.specs.Network.{Network}
use Rattle.spec.specs.Tree.{Tree, leaf, node, number, numbers, Pair, Describes, ValidTree}
use Rattle.spec.specs.Improve.{Region, one, join, Front, member, Rebuilt, build, graft}
use Rattle.laws.specs.Booleans.{by_cases}
use Rattle.laws.specs.ListLaws.{sum_map, count_memb, count_not_memb}
use Rattle.laws.specs.Regions.{sum_places, joins, over, build_sum, count-node, Swapped, here, on_left, on_right, graft_swapped, swapped_part, swapped_number, swapped_sum}
use Rattle.laws.specs.Rebuilds.{Kept, kept_count, FrontOf, build_kept}
use Rattle.laws.specs.ArrayRebuild.{Wrote, write, build_array, Same, times, Written, Each, build_writes, swapped_described}
use Rattle.laws.specs.Arrays.{valid_once}
use Rattle.frontier.specs.Fronts.{Read, IsNode}
use Rattle.reprice.specs.Laws.{Spot}

pub each_all : (P : ℕ → Type 0) → ((p : ℕ) → P p) → (x : Region) → Each P x
each_all P h (one p) = h p
each_all P h (join x y) = (each_all P h x, each_all P h y)

-- numbers that agree on a region's members build the same array
pub build_same : (n : ℕ) (xs ys : List ℕ) (x : Region) → Each (λ p. get_or xs p 0 ≡ get_or ys p 0) x → (sl : List ℕ) (a : List Pair)
    → build_array n xs x sl a ≡ build_array n ys x sl a
build_same n xs ys (one p) h sl a = λ i. record { array = a; top = h i; slots = sl }
build_same n xs ys (join x y) h sl a =
    let P : Wrote = build_array n xs x sl a in
    let Q : Wrote = build_array n ys x sl a in
    let e : P ≡ Q = build_same n xs ys x h.0 sl a in
    ap₂ (λ (p q : Wrote). write n q.array p.top q.top q.slots) e
    (ap (λ (p : Wrote). build_array n xs y p.slots p.array) e ∙ build_same n xs ys y h.1 Q.slots Q.array)

-- a test that fails nowhere on a region
pub none_over : (f : ℕ → ℕ) (x : Region) → over f x ≡ 0 → Each (λ p. f p ≡ 0) x
none_over f (one p) h = h
none_over f (join x y) h = (none_over f x (omega arith), none_over f y (omega arith))

pub each_map : (P Q : ℕ → Type 0) → ((p : ℕ) → P p → Q p) → (x : Region) → Each P x → Each Q x
each_map P Q f (one p) h = f p h
each_map P Q f (join x y) h = (each_map P Q f x h.0, each_map P Q f y h.1)

-- a subtree replaced by itself
pub swapped_same : {s t t' : Tree} → Swapped s s t t' → t' ≡ t
swapped_same here = refl
swapped_same (on_left {u = u} {r = r} w) = ap (λ x. node u x r) (swapped_same w)
swapped_same (on_right {u = u} {l = l} w) = ap (λ x. node u l x) (swapped_same w)

-- the numbers of opened nodes are inner nodes'
pub opened_inner : (N : Network) (flag : ℕ → Bool) (kids works : List ℕ) (n : ℕ) (ts : List Tree) → All (λ t. Read N flag kids works n t × IsNode N flag kids works n t) ts
    → (u : ℕ) → 1 ≤ times u (map number ts) → n ≤ u
opened_inner N flag kids works n [] d u h = absurd (omega arith)
opened_inner N flag kids works n (leaf i ∷ ts) d u h = absurd d.0.1
opened_inner N flag kids works n (node v l r ∷ ts) d u h =
    by_cases (eqb u v)
    (λ e. omega (arith, eqb-true u v e, d.0.0.0))
    (λ e. opened_inner N flag kids works n ts d.1 u (let z : 1 ≤ 0 + times u (map number ts) = rw e at h in omega arith))

-- a tree with the measures of a valid one, which an array of its length describes
pub kept_valid_in : (n : ℕ) (a b : List Pair) (t t' : Tree) → ValidTree n a t → Kept t t' → length b ≡ length a → Describes n b t' → ValidTree n b t'
kept_valid_in n a b t t' d x e h =
    record {
      inner = omega (arith, d.inner);
      described = h;
      rooted = x.root ∙ d.rooted ∙ (let z : n + length a - 1 ≡ n + length b - 1 = omega arith in z);
      met = λ v c. kept_count t t' x v ∙ d.met v (omega arith);
      above = λ v c. eq-false_of_not-eq-true (λ q.
          omega (arith, count_memb v (numbers t') q, kept_count t t' x v, count_not_memb v (numbers t) (d.above v (omega arith))));
    }

-- the node v of a valid tree, and its frontier
module _ (N : Network) (flag : ℕ → Bool) (n : ℕ) (a : List Pair) (t : Tree) (valid : ValidTree n a t) (v : ℕ) (spot : Spot n a v t)
    (fr : Front) (front : FrontOf N flag spot.s fr) (described : (p : ℕ) → Describes n a (member fr.members p))
    (inner : (u : ℕ) → 1 ≤ times u (map number fr.opened) → n ≤ u)
    (nums : List ℕ) (names : (p : ℕ) → get_or nums p 0 ≡ number (member fr.members p))
    -- a tree over all members
    (x : Region) (two : 2 ≤ length fr.members) (every : suc (joins x) ≡ length fr.members)
    (once : (f : ℕ → ℕ) → over f x ≡ sum_of f (range (length fr.members)))
  where
    abbrev sl : List ℕ
    sl = map number fr.opened

    abbrev new : Rebuilt
    new = build fr.members x sl

    abbrev grafted : Tree
    grafted = graft v new.tree t

    kept_part : Kept spot.s new.tree
    kept_part = build_kept N flag 0 None spot.s fr front x every two once

    swapped : Swapped spot.s new.tree t grafted
    swapped = graft_swapped v new.tree t spot.s (valid_once n a t valid v) spot.found

    part_count : (u : ℕ) → count u (numbers spot.s) ≤ count u (numbers t)
    part_count u = swapped_part (λ t. count u (numbers t)) (λ v l r. omega (arith, count-node u v l r)) swapped

    -- the opened numbers and the members' are the region's
    region_count : (u : ℕ) → times u sl + over (λ p. count u (numbers (member fr.members p))) x ≡ count u (numbers spot.s)
    region_count u =
        omega (
          arith,
          once (λ p. count u (numbers (member fr.members p))),
          sum_places (λ t. count u (numbers t)) fr.members,
          sum_map (λ w. cond (eqb u w) 1 0) number fr.opened,
          front.sums (λ t. count u (numbers t)) (λ t. cond (eqb u (number t)) 1 0) (λ w l r. count-node u w l r),
        )

    enough : joins x ≤ length sl
    enough = omega (arith, front.sized, length-map fr.opened number)

    within : (u : ℕ) → 1 ≤ times u sl → (n ≤ u) × (u < n + length a)
    within u h = (
      inner u h,
      lt_of_not-le (λ q. omega (arith, region_count u, part_count u, count_not_memb u (numbers t) (valid.above u q))),
    )

    written : Written n (build_array n nums x sl a) new sl a
    written =
        build_writes n fr.members nums names x sl a (each_all (λ p. Describes n a (member fr.members p)) described x) enough
        (λ u. omega (arith, region_count u, part_count u, valid_once n a t valid u)) within

    outside : Same n a (build_array n nums x sl a).array (λ u. count u (numbers spot.s) ≡ 0)
    outside u h e =
        written.same u h
        (omega (
          arith,
          region_count u,
          build_sum (λ t. count u (numbers t)) (λ w. cond (eqb u w) 1 0) (count-node u) fr.members x sl enough,
        ))

    kept_whole : Kept t grafted
    kept_whole =
        record { root = swapped_number kept_part.root swapped; sums = λ f c adds. swapped_sum f c adds (kept_part.sums f c adds) swapped }

    -- THE ARRAY WITH THE REGION REBUILT HAS THE GRAFTED TREE
    pub rebuilt_valid : ValidTree n (build_array n nums x sl a).array grafted
    rebuilt_valid =
        kept_valid_in n a (build_array n nums x sl a).array t grafted valid kept_whole written.long
        (swapped_described n a (build_array n nums x sl a).array kept_part.root swapped (valid_once n a t valid) outside written.described valid.described)

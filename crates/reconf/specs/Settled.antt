-- From what the calls of a visit answer to its promise. Assumes nothing.
use Rattle.std.specs.Prelude.{Bool, true, false, cond, List, ◌∷◌, map, ◌≡◌, refl, ℕ, zero, suc, ◌+◌, ◌-◌, ◌*◌, ◌^◌, ◌≤◌, ◌<◌, ltb, get_or, set, take, drop, Option, None, Some}
use Rattle.std.proofs.Math.Path.{sym, ap, ap₂, subst}
use Rattle.std.proofs.Common.{◌∙◌, arith, pow_mono, get_or-take, length-take-le, take_all, lt-ltb, ltb-true}
use Rattle.std.proofs.lemmas.List.{take-append-le}
use Rattle.std.proofs.Math.ListN.{length}
use Rattle.std.proofs.lemmas.List.Edits.{sets-eq, sets as put_at}
use Rattle.spec.specs.Lists.{memb, from, range, sum_of}
use Rattle.spec.specs.Network.{Network, leaf_count}
use Rattle.spec.specs.Tree.{Tree, number, pairs_of, ValidTree}
use Rattle.spec.specs.Price.{lists}
use Rattle.slots.specs.Slots.{held}
use Rattle.spec.specs.Calls.{flag_at}
use Rattle.spec.specs.Improve.{Region, Front, member, build, graft, old_cost, locals, searched, tried_at, accept_best}
use Rattle.laws.specs.Booleans.{by_cases}
use Rattle.laws.specs.ListLaws.{range_length}
use Rattle.laws.specs.Regions.{joins, over}
use Rattle.laws.specs.Searches.{best_over, over_sum, over_joins}
use Rattle.laws.specs.ArrayRebuild.{Wrote, build_array, Each}
use Rattle.frontier.specs.Opens.{ranks, State, state, open_found, open_most, openings, freed}
use Rattle.frontier.specs.Costs.{cost_below}
use Rattle.frontier.specs.Fronts.{Fronts}
use Rattle.frontier.specs.Swaps.{number_at}
use Rattle.frontier.specs.Turns.{open_at_opened}
use Rattle.frontier.specs.declared.Most.{Most}
use Rattle.subset.specs.Search.{found_at, searched_in, tried_in}
use Rattle.subset.specs.Walk.{split_at}
use Rattle.subset.specs.Regions.{region_of}
use Rattle.rebuild.specs.Writes.{wrote}
use Rattle.locals.specs.Locals.{LocalSets}
use Rattle.locals.specs.Transfer.{locals_of, InLocal, local_found, local_tried}
use Rattle.reprice.specs.Held.{tree_of}
use Rattle.reconf.specs.Visits.{Searches, Reconfs}
use Rattle.reconf.specs.Grafts.{build_same, none_over, each_map, each_all, opened_inner, rebuilt_valid}
use Rattle.reconf.specs.Locals.{locals_in, locals_same, locals_few, in_local, in_range, put_at_lem}
use Rattle.reconf.specs.Cases.{accepts, or_zero, accepted_found, few_is, many_is, search_is, stays_is, rebuilt_is}
use Rattle.reconf.specs.Node.{Visitable, tree_valid, spot, fr, front, described, ranged, root_has, fronts, count_is, count_most, count_some, taken, taken_names, names, taken_has, has, cost_is, cost_small, stays, changes}

-- the search's words are there
pub word_room : (m k w : ℕ) → m ≤ k → 4096 + 8 * 2 ^ k ≤ w → 7 * 2 ^ m ≤ w
word_room m k w h b = omega (arith, pow_mono {i = m} {j = k} h)

-- three members or more have at least 8 masks
pub mask_room : (m : ℕ) → 3 ≤ m → 8 ≤ 2 ^ m
mask_room m h = pow_mono {i = 3} {j = m} h

-- the front of a list of numbers
freed_take : (l : List ℕ) (c k : ℕ) → k ≤ c → freed (take c l) k ≡ freed l k
unfolding freed
freed_take l c zero h = refl
freed_take l c (suc k) h = ap₂ (λ y z. y ∷ z) (get_or-take c l k 0 (omega arith)) (freed_take l c k (omega arith))

pub freed_front : (l : List ℕ) (c : ℕ) → c ≤ length l → freed (take c l) (length (take c l)) ≡ freed l c
freed_front l c h = ap (freed (take c l)) (length-take-le c l h) ∙ freed_take l c c (omega arith)

cost_take : (works l : List ℕ) (c k : ℕ) → k ≤ c → cost_below works (take c l) k ≡ cost_below works l k
unfolding cost_below
cost_take works l c zero h = refl
cost_take works l c (suc k) h =
    ap₂ (λ y z. y + 2 ^ get_or works z 0) (cost_take works l c k (omega arith)) (get_or-take c l k 0 (omega arith))

pub cost_front : (works l : List ℕ) (c : ℕ) → c ≤ length l → cost_below works (take c l) (length (take c l)) ≡ cost_below works l c
cost_front works l c h = ap (cost_below works (take c l)) (length-take-le c l h) ∙ cost_take works l c c (omega arith)

put_front : (old l : List ℕ) → length l ≤ length old → take (length l) (put_at old 0 l) ≡ l
put_front old l h = ap (take (length l)) (sets-eq l old 0 (omega (arith, h))) ∙ take-append-le (length l) l (drop (0 + length l) old) (omega arith) ∙ take_all (length l) l (omega arith)

-- the loop that opens keeps the opened list's length
found_long : (kids : List ℕ) (n : ℕ) (s : State) (o : Option Most) → length (open_found kids n s o).opened ≡ length s.opened
found_long kids n s None = refl
found_long kids n s (Some q) = open_at_opened kids n q.place s

opened_long : (kids works : List ℕ) (n times : ℕ) (s : State) → length (openings kids works n times s).opened ≡ length s.opened
unfolding openings open_most
opened_long kids works n zero s = refl
opened_long kids works n (suc times) s =
    let t : State = openings kids works n times s in
    found_long kids n t (ranks n works None 0 (take t.count t.members)) ∙ opened_long kids works n times s

-- numbers below a bound
none_past : (b k n : ℕ) → k + n ≤ b → sum_of (λ p. cond (ltb p b) 0 1) (from k n) ≡ 0
none_past b k zero h = refl
none_past b k (suc n) h = rw (lt-ltb k b (omega arith)) (omega (arith, none_past b (suc k) n (omega arith)))

module _ {N : Network} {x : ℕ} {weights flags kids sets works : List ℕ} (h : Visitable N x weights flags kids sets works)
    (v : ℕ) (inside_n : v < x + (x - 1)) (k : ℕ)
    (members₀ opened₀ members opened : List ℕ) (m : ℕ) (one : 1 ≤ k) (room : k ≤ length members₀) (room_opened : k ≤ suc (length opened₀))
    (st_n : state members opened m ≡ openings kids works x (k - 1) (state (set members₀ 0 v) opened₀ 1))
  where
    pub inside : v < leaf_count N + (leaf_count N - 1)
    inside = omega (arith, h.leaves)

    st : state members opened m ≡ openings kids works (leaf_count N) (k - 1) (state (set members₀ 0 v) opened₀ 1)
    st = st_n ∙ ap (λ y. openings kids works y (k - 1) (state (set members₀ 0 v) opened₀ 1)) (sym h.leaves)

    abbrev flag : ℕ → Bool
    flag = flag_at flags

    abbrev s : Tree
    s = (spot h v inside k).s

    abbrev front_at : Front
    front_at = fr h v inside k

    abbrev ms : List Tree
    ms = front_at.members

    counted : m ≡ length ms
    counted = count_is h v inside k members₀ opened₀ members opened m one room room_opened st

    pub members_few : m ≤ k
    members_few = count_most h v inside k members₀ opened₀ members opened m one room room_opened st

    pub members_some : 1 ≤ m
    members_some = count_some h v inside k members₀ opened₀ members opened m one room room_opened st

    pub old_small : cost_below works opened (m - 1) < 9007199254740992
    old_small = cost_small h v inside k members₀ opened₀ members opened m one room room_opened st

    front_lists : Fronts N flag kids works (leaf_count N) (state members opened m) front_at
    front_lists = fronts h v inside k members₀ opened₀ members opened m one room room_opened st

    -- the opened list has a place for each opened node
    pub short : m - 1 ≤ length opened
    short = omega (arith, members_few, room_opened, ap (λ (z : State). length z.opened) st_n, opened_long kids works x (k - 1) (state (set members₀ 0 v) opened₀ 1))

    -- ---- the node is left ----

    pub left_few : (limit : Option ℕ) → m < 3 → Reconfs N flag k limit v kids kids 0 0
    left_few limit b = stays h v inside k limit 0 (few_is N flag limit s front_at (omega (arith, counted)))

    abbrev L : List ℕ
    L = locals_in sets members m flags

    listed : L ≡ locals_of N flag s front_at
    listed =
        ap (λ y. locals_in sets members y flags) counted
        ∙ locals_same N flags s front_at sets members h.accepted.few_indices
        (has h v inside k members₀ opened₀ members opened m one room room_opened st) (ranged h v inside k)

    locals_count : length L ≡ locals N flag ms
    unfolding locals
    locals_count = ap length listed

    pub left_many : (limit : Option ℕ) (c : ℕ) → c ≡ length L → 128 < c → Reconfs N flag k limit v kids kids 0 0
    left_many limit c e b = stays h v inside k limit 0 (many_is N flag limit s front_at (omega (arith, locals_count)))

    -- ---- the local indices ----

    module _ (c : ℕ) (local₀ local : List ℕ) (ec : c ≡ length L) (el : local ≡ put_at local₀ 0 L) (long : 256 ≤ length local₀) where
      at : (i : ℕ) → i < c → get_or local i 0 ≡ get_or (locals_of N flag s front_at) i 0
      at i b =
          ap (λ l. get_or l i 0) el
          ∙ put_at_lem local₀ L i (omega (arith, locals_few sets members m flags)) (omega arith)
          ∙ ap (λ l. get_or l i 0) listed

      pub small : (i : ℕ) → i < c → get_or weights (get_or local i 0) 0 ≤ 8
      small i b =
          let j : ℕ = get_or (locals_of N flag s front_at) i 0 in
          let r = in_range N flags s front_at sets members h.accepted.few_indices
          (has h v inside k members₀ opened₀ members opened m one room room_opened st) (ranged h v inside k) i (omega (arith, ap length listed)) in
          omega (arith, ap (λ y. get_or weights y 0) (at i b), h.weighs j r, h.accepted.weights_fit j)

    -- ---- the fronts of both lists ----

    module _ (M O : List ℕ) (eM : M ≡ take m members) (eO : O ≡ take (m - 1) opened) where
      pub taken_is : length M ≡ m
      taken_is = ap length eM ∙ taken h v inside k members₀ opened₀ members opened m one room room_opened st

      pub opened_small : cost_below works O (length O) < 9007199254740992
      opened_small = omega (arith, ap (λ l. cost_below works l (length l)) eO, cost_front works opened (m - 1) short, old_small)

      held_by : (p j : ℕ) → p < length ms → j < 256 → held sets 4 (get_or M p 0) j ≡ memb j (lists N (member (fr h v inside k).members p))
      held_by p j b c =
          ap (λ l. held sets 4 (get_or l p 0) j) eM ∙ taken_has h v inside k members₀ opened₀ members opened m one room room_opened st p j b c

      -- the local indices that the front's members list
      abbrev LM : List ℕ
      LM = locals_in sets M (length M) flags

      listed_front : LM ≡ locals_of N flag s front_at
      listed_front =
          ap (λ y. locals_in sets M y flags) (taken_is ∙ counted)
          ∙ locals_same N flags s front_at sets M h.accepted.few_indices held_by (ranged h v inside k)

      pub locals_front : LM ≡ L
      locals_front = listed_front ∙ sym listed

      module _ (c : ℕ) (local₀ local : List ℕ) (ec : c ≡ length LM) (el : local ≡ put_at local₀ 0 LM) (long : 256 ≤ length local₀) where
        -- what is taken of the list
        pub listed_is : take c local ≡ LM
        listed_is = ap₂ take ec el ∙ put_front local₀ LM (omega (arith, locals_few sets M (length M) flags))

        pub count_local : length (take c local) ≡ length (locals_of N flag s front_at)
        count_local = ap length (listed_is ∙ listed_front)

        at_front : (i : ℕ) → i < length (take c local) → get_or (take c local) i 0 ≡ get_or (locals_of N flag s front_at) i 0
        at_front i b = ap (λ l. get_or l i 0) (listed_is ∙ listed_front)

        pub small_front : (i : ℕ) → i < length (take c local) → get_or weights (get_or (take c local) i 0) 0 ≤ 8
        small_front i b =
            let below : i < c = omega (arith, ec, ap length listed_is) in
            omega (
              arith,
              ap (λ y. get_or weights y 0) (get_or-take c local i 0 below),
              small c local₀ local (ec ∙ ap length locals_front) (el ∙ ap (put_at local₀ 0) locals_front) long i below,
            )

        -- ---- the search ----

        module _ (limit : Option ℕ) (part : List ℕ) (cost : Option ℕ) (tried : ℕ) (few : c ≤ 128) (three : 3 ≤ length M)
            (q : Searches sets M (take c local) weights v limit part cost tried) (old : ℕ) (eo : old ≡ cost_below works O (length O))
            (r : Bool) (er : r ≡ accepts cost old)
          where
            in_numbers : InLocal N flag s front_at q.united q.wt
            in_numbers =
                in_local N flags s front_at sets M h.accepted.few_indices
                held_by (ranged h v inside k)
                v (length (take c local)) (root_has h v inside k) weights (take c local) q.wt q.united h.weighs count_local at_front (omega (arith, ec, ap length listed_is))
                (subst (λ y. LocalSets sets 4 v M y (take c local) (length (take c local)) q.united) (taken_is ∙ counted) q.placed) q.weighs

            found_is : found_at part (2 ^ length M) cost ≡ searched N flag limit s front_at
            found_is = q.found ∙ ap (searched_in q.united q.wt limit) (taken_is ∙ counted) ∙ local_found N flag s front_at q.united q.wt limit in_numbers

            tried_is : tried ≡ tried_at N flag limit s front_at
            tried_is = q.count ∙ ap (tried_in q.united q.wt limit) (taken_is ∙ counted) ∙ local_tried N flag s front_at q.united q.wt limit in_numbers

            accepted : r ≡ accepts cost (old_cost N flag front_at.opened)
            accepted = er ∙ ap (accepts cost) (eo ∙ ap (λ l. cost_below works l (length l)) eO ∙ cost_front works opened (m - 1) short ∙ cost_is h v inside k members₀ opened₀ members opened m one room room_opened st)

            pub stays_searched : r ≡ false → Reconfs N flag k limit v kids kids 0 tried
            stays_searched z =
                subst (λ y. Reconfs N flag k limit v kids kids 0 y) (sym tried_is)
                (stays h v inside k limit (tried_at N flag limit s front_at)
                (search_is N flag limit s front_at (omega (arith, counted, taken_is)) (omega (arith, locals_count, ap length locals_front))
                ∙ ap (accept_best N flag limit s front_at) (sym found_is)
                ∙ stays_is N flag limit s front_at part (2 ^ length M) cost (sym accepted ∙ z)))

            -- ---- the rebuild ----

            abbrev region : Region
            region = region_of (split_at part) (2 ^ length M - 1)

            found_some : r ≡ true → searched N flag limit s front_at ≡ Some (record { cost = or_zero cost; tree = region })
            found_some z = sym found_is ∙ accepted_found part (2 ^ length M) cost old (sym er ∙ z)

            module _ (z : r ≡ true) where
              once : (f : ℕ → ℕ) → over f region ≡ sum_of f (range (length ms))
              once f =
                  over_sum (length ms) _ _ _ limit f
                  (best_over (length ms) _ _ _ limit (length ms) (range (length ms)) (record { cost = or_zero cost; tree = region }) (found_some z))

              every : suc (joins region) ≡ length ms
              every =
                  over_joins (length ms) _ _ _ limit
                  (best_over (length ms) _ _ _ limit (length ms) (range (length ms)) (record { cost = or_zero cost; tree = region }) (found_some z))
                  ∙ range_length 0 (length ms)

              named : Each (λ p. get_or members p 0 ≡ get_or (map number ms) p 0) region
              named =
                  each_map (λ p. cond (ltb p m) 0 1 ≡ 0) (λ p. get_or members p 0 ≡ get_or (map number ms) p 0) (λ p e.
                  names h v inside k members₀ opened₀ members opened m one room room_opened st p (below p e) ∙ sym (number_at ms p))
                  region
                  (none_over (λ p. cond (ltb p m) 0 1) region (once (λ p. cond (ltb p m) 0 1) ∙ none_past m 0 (length ms) (omega (arith, counted))))
                where
                  below : (p : ℕ) → ◌≡◌ {A = ℕ} (cond (ltb p m) 0 1) 0 → p < m
                  below p e = by_cases (ltb p m) (λ b. ltb-true p m b) (λ b. absurd (let y : ◌≡◌ {A = ℕ} 1 0 = rw b at e in omega arith))

              named_front : Each (λ p. get_or M p 0 ≡ get_or (map number ms) p 0) region
              named_front =
                  each_all (λ p. get_or M p 0 ≡ get_or (map number ms) p 0)
                  (λ p. ap (λ l. get_or l p 0) eM ∙ taken_names h v inside k members₀ opened₀ members opened m one room room_opened st p ∙ sym (number_at ms p)) region

              -- the longer lists build the same array
              pub built_front : build_array x M region (freed O (length O)) (pairs_of kids) ≡ build_array x members region (freed opened (m - 1)) (pairs_of kids)
              built_front =
                  ap (λ sl. build_array x M region sl (pairs_of kids)) (ap (λ l. freed l (length l)) eO ∙ freed_front opened (m - 1) short)
                  ∙ build_same x M (map number ms) region named_front (freed opened (m - 1)) (pairs_of kids)
                  ∙ sym (build_same x members (map number ms) region named (freed opened (m - 1)) (pairs_of kids))

              valid_then : ValidTree (leaf_count N) (build_array (leaf_count N) (map number ms) region (map number front_at.opened) (pairs_of kids)).array
                  (graft v (build ms region (map number front_at.opened)).tree (tree_of (leaf_count N) kids))
              valid_then =
                  rebuilt_valid N flag (leaf_count N) (pairs_of kids) (tree_of (leaf_count N) kids) (tree_valid h v inside k) v (spot h v inside k)
                  front_at (front h v inside k) (described h v inside k)
                  (opened_inner N flag kids works (leaf_count N) front_at.opened front_lists.read_opened)
                  (map number ms) (number_at ms) region (omega (arith, counted, taken_is)) every once

              pub rebuilds : (masks : ℕ) → masks ≡ 2 ^ length M → (kids' taken' : List ℕ) (top left : ℕ) → length kids' ≡ length kids
                  → wrote kids' taken' top left ≡ build_array x M (region_of (split_at part) (masks - 1)) (freed O (length O)) (pairs_of kids)
                  → Reconfs N flag k limit v kids kids' 1 tried
              unfolding wrote
              rebuilds masks em kids' taken' top left same_long e =
                  let array_is : pairs_of kids' ≡ (build_array (leaf_count N) (map number ms) region (map number front_at.opened) (pairs_of kids)).array =
                  ap (λ (w : Wrote). w.array) e
                  ∙ ap (λ y. (build_array y M (region_of (split_at part) (masks - 1)) (freed O (length O)) (pairs_of kids)).array) (sym h.leaves)
                  ∙ ap (λ y. (build_array (leaf_count N) M (region_of (split_at part) (y - 1)) (freed O (length O)) (pairs_of kids)).array) em
                  ∙ ap (λ sl. (build_array (leaf_count N) M region sl (pairs_of kids)).array) (ap (λ l. freed l (length l)) eO ∙ freed_front opened (m - 1) short ∙ front_lists.opened)
                  ∙ ap (λ (w : Wrote). w.array) (build_same (leaf_count N) M (map number ms) region named_front (map number front_at.opened) (pairs_of kids)) in
                  subst (λ y. Reconfs N flag k limit v kids kids' 1 y) (sym tried_is)
                  (changes h v inside k limit (build ms region (map number front_at.opened)).tree (tried_at N flag limit s front_at) kids' same_long
                  (search_is N flag limit s front_at (omega (arith, counted, taken_is)) (omega (arith, locals_count, ap length locals_front))
                  ∙ ap (accept_best N flag limit s front_at) (sym found_is)
                  ∙ rebuilt_is N flag limit s front_at part (2 ^ length M) cost (sym accepted ∙ z))
                  (subst (λ b. ValidTree (leaf_count N) b (graft v (build ms region (map number front_at.opened)).tree (tree_of (leaf_count N) kids))) (sym array_is) valid_then))

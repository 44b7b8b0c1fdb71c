-- The laws of a visit on longer lists, whose fronts are in use. Assumes nothing.
use Rattle.std.specs.Prelude.{Bool, true, false, ◌&&◌, cond, List, ◌≡◌, refl, ℕ, suc, ◌+◌, ◌-◌, ◌^◌, ◌≤◌, ◌<◌, ltb, length, get_or, set, take, Option}
use Rattle.std.proofs.Math.Path.{sym, ap}
use Rattle.std.proofs.Common.{◌∙◌, arith, get_or-take, ltb-true}
use Rattle.std.proofs.lemmas.List.Edits.{sets as put_at}
use Rattle.spec.specs.Network.{Network}
use Rattle.spec.specs.Tree.{pairs_of}
use Rattle.spec.specs.Calls.{flag_at}
use Rattle.laws.specs.Booleans.{by_cases}
use Rattle.laws.specs.ArrayRebuild.{build_array}
use Rattle.slots.specs.Slots.{held}
use Rattle.frontier.specs.Opens.{state, openings, freed}
use Rattle.frontier.specs.Costs.{cost_below}
use Rattle.subset.specs.Walk.{split_at}
use Rattle.subset.specs.Regions.{region_of}
use Rattle.rebuild.specs.Writes.{wrote}
use Rattle.subset.specs.Search.{found_at, searched_in, tried_in}
use Rattle.locals.specs.Locals.{local_test, local_weight}
use Rattle.reconf.specs.Visits.{Searches, SearchesFront, Reconfs}
use Rattle.reconf.specs.Locals.{locals_in}
use Rattle.reconf.specs.Cases.{accepts}
use Rattle.reconf.specs.Node.{Visitable}
use Rattle.reconf.specs.Settled.{cost_front, short, taken_is, locals_front, listed_is, stays_searched, built_front, rebuilds}

-- ---- a search among the fronts ----

test_front : (sets : List ℕ) (s : ℕ) (local : List ℕ) (c i : ℕ) → local_test sets 4 s local c i ≡ local_test sets 4 s (take c local) c i
test_front sets s local c i =
    by_cases (ltb i c)
    (λ b. ap (λ j. ltb i c && held sets 4 s j) (sym (get_or-take c local i 0 (ltb-true i c b))))
    (λ b. rw b refl)

weight_front : (weights local : List ℕ) (c i : ℕ) → local_weight weights local c i ≡ local_weight weights (take c local) c i
weight_front weights local c i =
    by_cases (ltb i c)
    (λ b. ap (λ j. cond (ltb i c) (get_or weights j 0) 0) (sym (get_or-take c local i 0 (ltb-true i c b))))
    (λ b. rw b refl)

module _ (sets members local weights : List ℕ) (v m c : ℕ) (limit : Option ℕ) (part : List ℕ) (cost : Option ℕ) (tried : ℕ)
    (em : length (take m members) ≡ m) (ec : length (take c local) ≡ c) where
  pub searches_front : SearchesFront sets members local weights v m c limit part cost tried → Searches sets (take m members) (take c local) weights v limit part cost tried
  searches_front q =
      record {
        united = q.united;
        wt = q.wt;
        placed = rw (em, ec) (record {
          root = λ i b. q.placed.root i b ∙ test_front sets v local c i;
          each = λ p i a b. q.placed.each p i a b ∙ test_front sets (get_or members p 0) local c i
              ∙ ap (λ u. local_test sets 4 u (take c local) c i) (sym (get_or-take m members p 0 a));
        });
        weighs = λ i b. rw ec (q.weighs i b ∙ weight_front weights local c i);
        found = rw em q.found;
        count = rw em q.count;
      }

  pub front_searches : Searches sets (take m members) (take c local) weights v limit part cost tried → SearchesFront sets members local weights v m c limit part cost tried
  front_searches q =
      record {
        united = q.united;
        wt = q.wt;
        placed = record {
          root = λ i b. q.placed.root i b ∙ rw ec (sym (test_front sets v local c i));
          each = λ p i a b. q.placed.each p i (omega (arith, em)) b
              ∙ ap (λ u. local_test sets 4 u (take c local) (length (take c local)) i) (get_or-take m members p 0 a)
              ∙ rw ec (sym (test_front sets (get_or members p 0) local c i));
        };
        weighs = λ i b. q.weighs i b ∙ rw ec (sym (weight_front weights local c i));
        found = ap (λ y. found_at part (2 ^ y) cost) (sym em) ∙ q.found ∙ ap (searched_in q.united q.wt limit) em;
        count = q.count ∙ ap (tried_in q.united q.wt limit) em;
      }

-- ---- the laws ----

module _ {N : Network} {x : ℕ} {weights flags kids sets works : List ℕ} (h : Visitable N x weights flags kids sets works)
    (v : ℕ) (inside_n : v < x + (x - 1)) (k : ℕ)
    (members₀ opened₀ members opened : List ℕ) (m : ℕ) (one : 1 ≤ k) (room : k ≤ length members₀) (room_opened : k ≤ suc (length opened₀))
    (st_n : state members opened m ≡ openings kids works x (k - 1) (state (set members₀ 0 v) opened₀ 1))
    (c : ℕ) (local₀ local : List ℕ) (ec : c ≡ length (locals_in sets members m flags)) (el : local ≡ put_at local₀ 0 (locals_in sets members m flags))
    (long : 256 ≤ length local₀) (limit : Option ℕ) (part : List ℕ) (cost : Option ℕ) (tried : ℕ) (few : c ≤ 128) (three : 3 ≤ m)
    (q : SearchesFront sets members local weights v m c limit part cost tried) (old : ℕ) (eo : old ≡ cost_below works opened (m - 1))
    (r : Bool) (er : r ≡ accepts cost old)
  where
    abbrev M : List ℕ
    M = take m members

    abbrev O : List ℕ
    O = take (m - 1) opened

    em : length M ≡ m
    em = taken_is h v inside_n k members₀ opened₀ members opened m one room room_opened st_n M O refl refl

    same : locals_in sets M (length M) flags ≡ locals_in sets members m flags
    same = locals_front h v inside_n k members₀ opened₀ members opened m one room room_opened st_n M O refl refl

    ec_front : c ≡ length (locals_in sets M (length M) flags)
    ec_front = ec ∙ ap length (sym same)

    el_front : local ≡ put_at local₀ 0 (locals_in sets M (length M) flags)
    el_front = el ∙ ap (put_at local₀ 0) (sym same)

    in_use : length (take c local) ≡ c
    in_use =
        ap length (listed_is h v inside_n k members₀ opened₀ members opened m one room room_opened st_n M O refl refl c local₀ local ec_front el_front long)
        ∙ sym ec_front

    whole : Searches sets M (take c local) weights v limit part cost tried
    whole = searches_front sets members local weights v m c limit part cost tried em in_use q

    eo_front : old ≡ cost_below works O (length O)
    eo_front = eo ∙ sym (cost_front works opened (m - 1) (short h v inside_n k members₀ opened₀ members opened m one room room_opened st_n))

    pub stays_searched_front : r ≡ false → Reconfs N (flag_at flags) k limit v kids kids 0 tried
    stays_searched_front =
        stays_searched h v inside_n k members₀ opened₀ members opened m one room room_opened st_n M O refl refl c local₀ local ec_front el_front long
        limit part cost tried few (omega (arith, em)) whole old eo_front r er

    pub rebuilds_front : r ≡ true → (masks : ℕ) → masks ≡ 2 ^ m → (kids' taken' : List ℕ) (top left : ℕ) → length kids' ≡ length kids
        → wrote kids' taken' top left ≡ build_array x members (region_of (split_at part) (masks - 1)) (freed opened (m - 1)) (pairs_of kids)
        → Reconfs N (flag_at flags) k limit v kids kids' 1 tried
    rebuilds_front z masks e kids' taken' top left same_long w =
        rebuilds h v inside_n k members₀ opened₀ members opened m one room room_opened st_n M O refl refl c local₀ local ec_front el_front long
        limit part cost tried few (omega (arith, em)) whole old eo_front r er z masks (e ∙ ap (λ y. 2 ^ y) (sym em)) kids' taken' top left same_long
        (w
        ∙ ap (λ y. build_array x members (region_of (split_at part) (y - 1)) (freed opened (m - 1)) (pairs_of kids)) (e ∙ ap (λ y. 2 ^ y) (sym em))
        ∙ sym (built_front h v inside_n k members₀ opened₀ members opened m one room room_opened st_n M O refl refl c local₀ local ec_front el_front long
        limit part cost tried few (omega (arith, em)) whole old eo_front r er z)
        ∙ ap (λ y. build_array x M (region_of (split_at part) (y - 1)) (freed O (length O)) (pairs_of kids)) (sym (e ∙ ap (λ y. 2 ^ y) (sym em))))

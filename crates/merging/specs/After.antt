-- The lent lists after the two tables of the least pair were merged hold greedy's next state. Assumes nothing.
use Rattle.std.specs.Prelude.{Bool, true, false, not, ◌&&◌, ◌||◌, ◌≡◌, List, [], ◌∷◌, ◌++◌, ℕ, zero, suc, ◌+◌, ◌*◌, ◌/◌, ◌≤◌, ◌<◌, eqb, ltb, length, get_or, set}
use Rattle.std.proofs.Math.Bool.{or-false, or_assoc}
use Rattle.std.proofs.Common.{refl, sym, ◌∙◌, ap, ap₂, subst, arith, length-append, length-set, get_or-set_same, get_or-set_other, eqb-true, ne_eqb}
use Rattle.std.proofs.Math.Decide.{ℕ_discrete}
use Rattle.std.proofs.lemmas.Bool.{eqb-false, not-true}
use Rattle.spec.specs.Lists.{memb, anyb}
use Rattle.spec.specs.Network.{Network, leaf_count, named}
use Rattle.spec.specs.Tree.{Tree, number, below, Pair}
use Rattle.spec.specs.Price.{lists}
use Rattle.spec.specs.Greedy.{Live, Cand, State, share, in_order, before, too_wide, size_of, merged_size, off, plus, joined, merge, connect, trees}
use Rattle.spec.specs.GreedyClaims.{others}
use Rattle.laws.specs.Booleans.{by_cases, or_cases, or_none, and_left, and_right, and_both, clash, or_turn}
use Rattle.laws.specs.ListLaws.{memb-append}
use Rattle.laws.specs.GreedyMerging.{Sound, connect_sound}
use Rattle.laws.specs.GreedyLists.{merged_size_lem}
use Rattle.laws.specs.GreedySlots.{entry, pair_at, tree_after}
use Rattle.slots.specs.Slots.{held, with_set, with_set_length, held_with, held_with_other, next_slot}
use Rattle.live.specs.Holders.{holders_length}
use Rattle.live.specs.Merged.{merged_set}
use Rattle.scores.specs.Scores.{first_of, second_of, code_of}
use Rattle.rows.specs.Rows.{all_length}
use Rattle.rows.specs.Known.{member_at, code_bits, Share, Known, alone, least, known_fewer}
use Rattle.rows.specs.Renewed.{Entry, stale, known, Kept, rows_gone}
use Rattle.merging.specs.Listed.{listed, other, remaining, remaining_memb, merge_listed}
use Rattle.merging.specs.Tables.{HoldsList}
use Rattle.merging.specs.Ruled.{outer, held_same, merged_is, outside_is}
use Rattle.tables.specs.Lists.{Lists}
use Rattle.merging.specs.Holds.{Given, Ghost, state_of, Holds, count_trees, tree_new, tree_old, row_known}
use Rattle.merging.specs.Turn.{words₁, rows₁, rises, used, small, hold, said, entries, Chosen, chosen_merges}

-- ---- what an entry says does not depend on higher slots ----

module _ (N : Network) (n₀ : ℕ) (t t' : ℕ → Tree) (y : ℕ) (same : (u : ℕ) → u ≤ y → t u ≡ t' u) where
  pair_same : (u : ℕ) → u < y → pair_at n₀ t u y ≡ pair_at n₀ t' u y
  pair_same u h = ap₂ (λ (v w : Tree). in_order n₀ (record { slot = u; tree = v }) (record { slot = y; tree = w })) (same u (omega arith)) (same y (omega arith))

  share_same : (u : ℕ) → u < y → Share N n₀ t u y ≡ Share N n₀ t' u y
  share_same u h = ap₂ (share N) (same u (omega arith)) (same y (omega arith))

  pub known_same : (L : List ℕ) (c : ℕ) → Known N n₀ t L y c → Known N n₀ t' L y c
  known_same L c (alone e h) = alone e (λ u m l. sym (share_same u l) ∙ h u m l)
  known_same L c (least x e l s w h) =
      least x (e ∙ ap (λ (p : Cand). code_of (merged_size N p) x) (pair_same x l)) l (sym (share_same x l) ∙ s)
      (ap (too_wide N) (sym (pair_same x l)) ∙ w)
      (λ u m d q.
      let (p, r) = h u m d (share_same u d ∙ q) in (
        ap (too_wide N) (sym (pair_same u d)) ∙ p,
        ap₂ (before N) (sym (pair_same u d)) (sym (pair_same x l)) ∙ r,
      ))

any_last : (p : Tree → Bool) (l : List Live) (x : Live) → anyb p (trees (l ++ (x ∷ []))) ≡ (anyb p (trees l) || p x.tree)
any_last p [] x = or-false (p x.tree)
any_last p (z ∷ l) x =
    ap (λ (b : Bool). p z.tree || b) (any_last p l x) ∙ sym (or_assoc (p z.tree) (anyb p (trees l)) (p x.tree))

module _ (G : Given) (S : Ghost) (M : Lists) (H : Holds G S M) (y : ℕ) (c : Chosen G S M H y) where
  abbrev N : Network
  N = G.net

  abbrev W : ℕ
  W = G.width

  abbrev n₀ : ℕ
  n₀ = G.start

  abbrev a : List Pair
  a = S.array

  abbrev tree : ℕ → Tree
  tree = S.tree

  abbrev L : List ℕ
  L = S.slots

  abbrev next : ℕ
  next = S.next

  abbrev s : State
  s = state_of S

  abbrev f : ℕ
  f = first_of n₀ c.x y

  abbrev g : ℕ
  g = second_of n₀ c.x y

  -- the next state
  abbrev pub next_ghost : Ghost
  next_ghost = record { array = plus a (tree f) (tree g); tree = tree_after N a tree next f g; slots = remaining f g L ++ (next ∷ []); next = suc next }

  abbrev tree' : ℕ → Tree
  tree' = tree_after N a tree next f g

  abbrev L' : List ℕ
  L' = remaining f g L ++ (next ∷ [])

  abbrev words : List ℕ
  words = words₁ G S M H

  abbrev entries_of : List ℕ
  entries_of = rows₁ G S M H

  order : pair_at n₀ tree c.x y ≡ record { first = entry tree f; second = entry tree g }
  order = by_cases (ltb y n₀) (λ e. rw e) (λ e. rw e)

  pub in_f : memb f L ≡ true
  in_f = by_cases (ltb y n₀) (λ e. rw e c.in_x) (λ e. rw e c.in_y)

  pub in_g : memb g L ≡ true
  in_g = by_cases (ltb y n₀) (λ e. rw e c.in_y) (λ e. rw e c.in_x)

  apart : f ≡ g → ⊥
  apart = by_cases (ltb y n₀) (λ e. rw e (λ q. omega (arith, c.less))) (λ e. rw e (λ q. omega (arith, c.less)))

  below_next : (u : ℕ) → memb u L ≡ true → u < next
  below_next u m = used G S M H u m

  merged_state : merge N (pair_at n₀ tree c.x y) s ≡ state_of next_ghost
  merged_state = ap (λ (p : Cand). merge N p s) order ∙ merge_listed N a tree L next f g below_next

  -- the turn goes on from the next state
  pub turn_on : (fuel : ℕ) → connect N n₀ (suc fuel) s ≡ connect N n₀ fuel (state_of next_ghost)
  turn_on fuel =
      chosen_merges G S M H fuel y c
      ∙ ap (connect N n₀ fuel) merged_state

  sound' : Sound N G.base G.lo G.all (state_of next_ghost)
  sound' = connect_sound N G.base G.lo G.all n₀ (suc zero) s (state_of next_ghost) (turn_on zero) H.sound

  pub count' : suc (length L') ≡ length L
  count' =
      omega (
        arith,
        sound'.forest.amount,
        H.sound.forest.amount,
        count_trees tree L,
        count_trees tree' L',
        length-append a (record { left = number (tree f); right = number (tree g) } ∷ []),
      )

  member' : (u : ℕ) → memb u L' ≡ ((other f g u && memb u L) || eqb u next)
  member' u = memb-append u (remaining f g L) (next ∷ []) ∙ ap₂ (λ (p q : Bool). p || q) (remaining_memb f g u L) (or-false (eqb u next))

  high : suc next < 256
  high = omega (arith, H.few, two L f g in_f in_g apart)
    where
      two : (l : List ℕ) (u v : ℕ) → memb u l ≡ true → memb v l ≡ true → (u ≡ v → ⊥) → 2 ≤ length l
      two l u v mu mv n =
          member_at l u mu λ i bi ei. member_at l v mv λ k bk ek.
          elim (ℕ_discrete i k) [ yes q ↦ absurd (n (ei ∙ ap (λ (j : ℕ). get_or l j 0) q ∙ sym ek)) | no q ↦ omega (arith, q) ]

  -- ---- the sets ----

  abbrev pub words₂ : List ℕ
  words₂ = with_set words W next (merged_set words W f g)

  long : 258 * W + W ≤ length words
  long = omega (arith, H.enough, holders_length M.words W L (length L))

  still : (u j : ℕ) → u < 257 → (u ≡ next → ⊥) → j < W * 64 → held words₂ W u j ≡ held M.words W u j
  still u j h n b =
      held_with_other words W next (merged_set words W f g) u j b n
      ∙ held_same N G.in_range W G.fits G.base G.lo G.all G.single a tree L next H.sound M.words H.enough
      (small G S M H) (hold G S M H) H.outside u j h b

  sets' : (u : ℕ) → u < suc next → HoldsList N words₂ W u (tree' u)
  sets' u h j b =
      elim (ℕ_discrete u next) [
        | yes e ↦ rw e
            (held_with words W next (merged_set words W f g) j (omega (arith, long, next_slot next 258 W (omega (arith, high)))) b
            ∙ merged_is N G.in_range W G.fits G.base G.lo G.all G.single a tree L next H.sound M.words H.enough
            (small G S M H) (hold G S M H) H.outside f g in_f in_g apart j b
            ∙ ap (λ (t : Tree). memb j (lists N t)) (sym (tree_new N a tree next f g)))
        | no n ↦ still u j (omega (arith, high)) n b ∙ H.sets u (omega (arith, n)) j b
            ∙ ap (λ (t : Tree). memb j (lists N t)) (sym (tree_old N a tree next f g u (omega (arith, n))))
      ]

  outside' : (j : ℕ) → j < W * 64 → held words₂ W 256 j ≡ outer N (trees (listed tree' L')) j
  outside' j b =
      still 256 j (omega arith) (λ e. omega (arith, high)) b
      ∙ H.outside j b
      ∙ ap (λ (p : ℕ → Bool). memb j N.outputs || named N p j) (λ k i. not (same i k))
      ∙ ap (λ (l : State). outer N (trees l.live) j) (ap (λ (p : Cand). merge N p s) (sym order) ∙ merged_state)
    where
      same : (i : ℕ) → anyb (λ t. below t i) (trees (listed tree L)) ≡ anyb (λ t. below t i) (trees (merge N (record { first = entry tree f; second = entry tree g }) s).live)
      same i =
          outside_is N G.in_range W G.fits G.base G.lo G.all G.single a tree L next H.sound M.words H.enough
          (small G S M H) (hold G S M H) H.outside f g in_f in_g apart i
          ∙ or_turn (below (tree f) i) (below (tree g) i) (anyb (λ w. below w i) (others s (record { first = entry tree f; second = entry tree g })))
          ∙ sym (any_last (λ t. below t i) (off g (off f (listed tree L))) (record { slot = next; tree = joined N a (tree f) (tree g) }))

  -- ---- sizes and numbers ----

  -- the bits that the entry of y names
  abbrev pub bits : ℕ
  bits = get_or entries_of y 0 / 512

  bits_are : bits ≡ size_of N (joined N a (tree f) (tree g))
  bits_are =
      ap (λ (r : ℕ). r / 512) c.code
      ∙ code_bits (merged_size N (pair_at n₀ tree c.x y)) c.x (small G S M H c.x c.in_x)
      ∙ ap (merged_size N) order
      ∙ merged_size_lem N (record { first = entry tree f; second = entry tree g }) (leaf_count N + length a)

  size' : (u : ℕ) → u < suc next → get_or (set M.sizes next bits) u 0 ≡ size_of N (tree' u)
  size' u h =
      elim (ℕ_discrete u next) [
        | yes e ↦ rw e (get_or-set_same M.sizes next bits 0 (omega (arith, high, H.places.1)) ∙ bits_are ∙ ap (size_of N) (sym (tree_new N a tree next f g)))
        | no n ↦ get_or-set_other M.sizes next u bits 0 n ∙ H.size u (omega (arith, n)) ∙ ap (size_of N) (sym (tree_old N a tree next f g u (omega (arith, n))))
      ]

  numbers' : (u : ℕ) → u < suc next → get_or (set M.nodes next (leaf_count N + length a)) u 0 ≡ number (tree' u)
  numbers' u h =
      elim (ℕ_discrete u next) [
        | yes e ↦ rw e (get_or-set_same M.nodes next _ 0 (omega (arith, high, H.places.0)) ∙ ap number (sym (tree_new N a tree next f g)))
        | no n ↦ get_or-set_other M.nodes next u _ 0 n ∙ H.numbers u (omega (arith, n)) ∙ ap number (sym (tree_old N a tree next f g u (omega (arith, n))))
      ]

  -- ---- the least pairs ----

  abbrev pub rows₂ : List ℕ
  rows₂ = set (set (set entries_of f 259) g 259) next 258

  long_rows : length entries_of ≡ length M.rows
  long_rows = all_length words W N.weights M.sizes n₀ L M.rows (length L)

  untouched : (u : ℕ) → (u ≡ f → ⊥) → (u ≡ g → ⊥) → (u ≡ next → ⊥) → get_or rows₂ u 0 ≡ get_or entries_of u 0
  untouched u p q r =
      get_or-set_other (set (set entries_of f 259) g 259) next u 258 0 r
      ∙ get_or-set_other (set entries_of f 259) g u 259 0 q
      ∙ get_or-set_other entries_of f u 259 0 p

  found' : (u : ℕ) → memb u L ≡ true → other f g u ≡ true → Entry N n₀ tree' L' u (get_or rows₂ u 0)
  found' u m o =
      let n₁ : u ≡ f → ⊥ = eqb-false u f (not-true _ (and_left (not (eqb u f)) (not (eqb u g)) o)) in
      let n₂ : u ≡ g → ⊥ = eqb-false u g (not-true _ (and_right (not (eqb u f)) (not (eqb u g)) o)) in
      let l : u < next = below_next u m in
      known
      (known_same N n₀ tree tree' u (λ v h. sym (tree_old N a tree next f g v (omega arith))) L' (get_or rows₂ u 0)
      (known_fewer N n₀ tree L L' u (get_or rows₂ u 0) fewer
      (subst (Known N n₀ tree L u) (sym (untouched u n₁ n₂ (λ e. omega arith)))
      (member_at L u m λ q b e.
      subst (λ (v : ℕ). Known N n₀ tree L v (get_or entries_of v 0)) (sym e)
      (row_known N n₀ tree L (rises G S M H) q (get_or entries_of (get_or L q 0) 0) b (λ j d t. (c.first q b j d t).0) (entries G S M H q b))))))
    where
      fewer : (v : ℕ) → memb v L' ≡ true → v < u → memb v L ≡ true
      fewer v m' l' =
          or_cases (other f g v && memb v L) (eqb v next) (sym (member' v) ∙ m')
          (λ t. and_right (other f g v) (memb v L) t)
          (λ t. absurd (omega (arith, eqb-true v next t, below_next u m)))

  kept' : Kept N n₀ tree' L' (suc next) rows₂
  kept' =
      record {
        found = λ u m. or_cases (other f g u && memb u L) (eqb u next) (sym (member' u) ∙ m)
            (λ t. found' u (and_right (other f g u) (memb u L) t) (and_left (other f g u) (memb u L) t))
            (λ t. stale (ap (λ (v : ℕ). get_or rows₂ v 0) (eqb-true u next t)
            ∙ get_or-set_same (set (set entries_of f 259) g 259) next 258 0 (simp length-set (omega (arith, high, H.places.2, long_rows)))));
        gone = gone';
        room = simp length-set (omega (arith, high, H.places.2, long_rows));
      }
    where
      gone' : (u : ℕ) → u < suc next → memb u L' ≡ false → get_or rows₂ u 0 ≡ 259
      gone' u h m =
          let (p, q) = or_none (other f g u && memb u L) (eqb u next) (sym (member' u) ∙ m) in
          let n : u ≡ next → ⊥ = eqb-false u next q in
          elim (ℕ_discrete u g) [
            | yes e ↦ get_or-set_other (set (set entries_of f 259) g 259) next u 258 0 n
                ∙ ap (λ (v : ℕ). get_or (set (set entries_of f 259) g 259) v 0) e
                ∙ get_or-set_same (set entries_of f 259) g 259 0 (simp length-set (omega (arith, high, below_next g in_g, H.places.2, long_rows)))
            | no n₂ ↦ elim (ℕ_discrete u f) [
              | yes e ↦ get_or-set_other (set (set entries_of f 259) g 259) next u 258 0 n
                  ∙ get_or-set_other (set entries_of f 259) g u 259 0 n₂
                  ∙ ap (λ (v : ℕ). get_or (set entries_of f 259) v 0) e
                  ∙ get_or-set_same entries_of f 259 0 (omega (arith, high, below_next f in_f, H.places.2, long_rows))
              | no n₁ ↦ untouched u n₁ n₂ n
                  ∙ rows_gone N n₀ tree L (rises G S M H) words W N.weights M.sizes (said G S M H) next below_next M.rows H.kept u (omega (arith, n))
                  (by_cases (memb u L) (λ t. clash (and_both (other f g u) (memb u L) (ap₂ (λ (a b : Bool). not a && not b) (ne_eqb u f n₁) (ne_eqb u g n₂)) t) p) (λ t. t))
            ]
          ]

  -- ---- all of it ----

  abbrev pub next_lists : Lists
  next_lists =
      record {
        words = words₂;
        nodes = set M.nodes next (leaf_count N + length a);
        sizes = set M.sizes next bits;
        live = L';
        rows = rows₂;
      }

  pub holds' : Holds G next_ghost next_lists
  holds' =
      record {
        sound = sound';
        sets = sets';
        size = size';
        numbers = numbers';
        outside = outside';
        kept = kept';
        lived = refl;
        few = omega (arith, count', H.few);
        enough = omega (arith, long, with_set_length words W next (merged_set words W f g));
        places = (
          simp length-set H.places.0,
          simp length-set H.places.1,
          simp length-set (omega (arith, H.places.2, long_rows)),
        );
      }

-- Greedy's merging over the lent lists: from a state that they hold, turn after turn, to the state in which merging ends, or to its
-- refusal. Assumes nothing.
use Rattle.std.specs.Prelude.{true, ◌≡◌, refl, List, [], ◌∷◌, ◌++◌, ℕ, suc, ◌+◌, ◌-◌, ◌/◌, ◌%◌, ◌<◌, length, get_or, set, Result, Err, Ok}
use Rattle.std.proofs.Common.{sym, ◌∙◌, ap, ap₂, subst, arith, add-one, length-append}
use Rattle.spec.specs.Lists.{memb}
use Rattle.spec.specs.Memory.{over}
use Rattle.spec.specs.Network.{Network, leaf_count}
use Rattle.spec.specs.Tree.{number, flat_of}
use Rattle.spec.specs.declared.Refusal.TheVariants.{TableTooWide}
use Rattle.spec.specs.Greedy.{size_of, merged_size, connect}
use Rattle.laws.specs.GreedyMerging.{Sound}
use Rattle.laws.specs.GreedySlots.{pair_at}
use Rattle.slots.specs.Slots.{with_set}
use Rattle.live.specs.Holders.{with_holders}
use Rattle.live.specs.Merged.{merged_set}
use Rattle.scores.specs.Scores.{first_of, second_of}
use Rattle.rows.specs.Rows.{renewed_all, least_of}
use Rattle.rows.specs.Known.{code_slot}
use Rattle.merging.specs.Listed.{remaining}
use Rattle.merging.specs.Removed.{put_node}
use Rattle.merging.specs.Merge.{first_at, second_at, marked, with_node}
use Rattle.tables.specs.declared.PairTooWide.{PairTooWide}
use Rattle.tables.specs.Lists.{Lists}
use Rattle.merging.specs.Holds.{Given, Ghost, state_of, Holds}
use Rattle.merging.specs.Turn.{words₁, rows₁, small, used, Chosen, Scanned, ends, refuses, chooses, scanned}
use Rattle.merging.specs.After.{next_ghost, next_lists, in_f, in_g, count', turn_on, holds'}

-- what the call is given: n leaves, n0 start tables with sets of w words, and the array so far, of `count` nodes, at the front of `kids`
pub record Start (G : Given) (S : Ghost) (M : Lists) (w n n0 count : ℕ) (weights kids : List ℕ) : Type 0 where
  pub holds : Holds G S M
  pub width : w ≡ G.width
  pub leaves : n ≡ leaf_count G.net
  pub tables : n0 ≡ G.start
  pub weighed : weights ≡ G.net.weights
  pub slots : length S.slots ≡ n0
  pub next : S.next ≡ n0
  pub made : count ≡ length S.array
  pub written : kids ≡ over kids (flat_of S.array)

module _ (G : Given) (S : Ghost) where
  abbrev N : Network
  N = G.net

  -- after t turns
  pub record Reached (kids₀ : List ℕ) (t : ℕ) (M : Lists) (kids : List ℕ) : Type 0 where
    pub state : Ghost
    pub holds : Holds G state M
    pub next : state.next ≡ G.start + t
    pub left : length state.slots + t ≡ G.start
    pub made : length state.array ≡ length S.array + t
    pub written : kids ≡ over kids₀ (flat_of state.array)
    pub same : connect N G.start G.start (state_of S) ≡ connect N G.start (G.start - t) (state_of state)

  -- the state in which merging ends, after r turns: what the lists say of its live tables
  pub record Final (kids₀ : List ℕ) (nodes sizes live kids : List ℕ) (r : ℕ) : Type 0 where
    pub state : Ghost
    pub sound : Sound N G.base G.lo G.all (state_of state)
    pub size : (u : ℕ) → u < state.next → get_or sizes u 0 ≡ size_of N (state.tree u)
    pub numbers : (u : ℕ) → u < state.next → get_or nodes u 0 ≡ number (state.tree u)
    pub lived : live ≡ state.slots
    pub left : length state.slots + r ≡ G.start
    pub made : length state.array ≡ length S.array + r
    pub written : kids ≡ over kids₀ (flat_of state.array)
    pub same : connect N G.start G.start (state_of S) ≡ Ok (state_of state)

  -- what the merging answers: how many turns there were, or its refusal
  pub data Connected (kids₀ : List ℕ) (nodes sizes live kids : List ℕ) (r : Result ℕ PairTooWide) : Type 0 where
    too_wide : (e : PairTooWide) → r ≡ Err e → connect N G.start G.start (state_of S) ≡ Err TableTooWide → Connected kids₀ nodes sizes live kids r
    ended : (t : ℕ) → r ≡ Ok t → Final kids₀ nodes sizes live kids t → Connected kids₀ nodes sizes live kids r

  final : (kids₀ : List ℕ) (t : ℕ) (M : Lists) (kids : List ℕ) (R : Reached kids₀ t M kids)
      → connect N G.start G.start (state_of S) ≡ Ok (state_of R.state) → Connected kids₀ M.nodes M.sizes M.live kids (Ok t)
  final kids₀ t M kids R e =
      ended t refl
      (record {
        state = R.state;
        sound = R.holds.sound;
        size = R.holds.size;
        numbers = R.holds.numbers;
        lived = R.holds.lived;
        left = R.left;
        made = R.made;
        written = R.written;
        same = e;
      })

  pub reached_start : (M : Lists) (w n n0 count : ℕ) (weights kids : List ℕ) → Start G S M w n n0 count weights kids → Reached kids 0 M kids
  reached_start M w n n0 count weights kids s =
      record {
        state = S;
        holds = s.holds;
        next = omega (arith, s.next, s.tables);
        left = omega (arith, s.slots, s.tables);
        made = omega arith;
        written = s.written;
        same = ap (λ (f : ℕ). connect N G.start f (state_of S)) (let z : G.start ≡ G.start - 0 = omega arith in z);
      }

  module _ (w n n0 count : ℕ) (weights kids₀ : List ℕ) (M₀ : Lists) (start : Start G S M₀ w n n0 count weights kids₀) where
    -- all turns are over
    pub reached_end : (t : ℕ) (M : Lists) (kids : List ℕ) → t ≡ n0 → Reached kids₀ t M kids → Connected kids₀ M.nodes M.sizes M.live kids (Ok t)
    reached_end t M kids e R =
        final kids₀ t M kids R
        (R.same ∙ ap (λ (f : ℕ). connect N G.start f (state_of R.state)) (let z : G.start - t ≡ 0 = omega (arith, e, start.tables) in z))

    -- a turn: the lists before it, and after its scan
    module _ (t : ℕ) (M : Lists) (kids : List ℕ) (R : Reached kids₀ t M kids) (less : t < n0)
        (y : ℕ) (words rows : List ℕ) (ew : words ≡ with_holders M.words w M.live (length M.live))
        (er : rows ≡ renewed_all words w weights M.sizes n0 M.live M.rows (length M.live)) (ey : y ≡ least_of M.sizes n0 rows M.live (length M.live))
      where
        abbrev T : Ghost
        T = R.state

        abbrev H : Holds G T M
        H = R.holds

        words_are : words ≡ words₁ G T M H
        words_are = ew ∙ ap₂ (λ (v : ℕ) (l : List ℕ). with_holders M.words v l (length l)) start.width H.lived

        rows_are : rows ≡ rows₁ G T M H
        rows_are =
            er ∙ ap₂ (λ (a : List ℕ) (v : ℕ). renewed_all a v weights M.sizes n0 M.live M.rows (length M.live)) words_are start.width
            ∙ ap₂ (λ (a : List ℕ) (v : ℕ). renewed_all (words₁ G T M H) G.width a M.sizes v M.live M.rows (length M.live)) start.weighed start.tables
            ∙ ap (λ (l : List ℕ). renewed_all (words₁ G T M H) G.width N.weights M.sizes G.start l M.rows (length l)) H.lived

        least_are : y ≡ least_of M.sizes G.start (rows₁ G T M H) T.slots (length T.slots)
        least_are =
            ey ∙ ap₂ (λ (v : ℕ) (a : List ℕ). least_of M.sizes v a M.live (length M.live)) start.tables rows_are
            ∙ ap (λ (l : List ℕ). least_of M.sizes G.start (rows₁ G T M H) l (length l)) H.lived

        found : Scanned G T M H (G.start - suc t) y
        found = subst (Scanned G T M H (G.start - suc t)) (sym least_are) (scanned G T M H (G.start - suc t))

        more : connect N G.start G.start (state_of S) ≡ connect N G.start (suc (G.start - suc t)) (state_of T)
        more = R.same ∙ ap (λ (f : ℕ). connect N G.start f (state_of T)) (let z : G.start - t ≡ suc (G.start - suc t) = omega (arith, less, start.tables) in z)

        -- no pair is left
        pub turn_ends : y ≡ 256 → Connected kids₀ M.nodes M.sizes M.live kids (Ok t)
        turn_ends e = go found
          where
            go : Scanned G T M H (G.start - suc t) y → Connected kids₀ M.nodes M.sizes M.live kids (Ok t)
            go (ends z q) = final kids₀ t M kids R (more ∙ q)
            go (refuses z q) = absurd (omega arith)
            go (chooses z q) = absurd (omega arith)

        -- a pair is too wide
        pub turn_refused : (nodes sizes live kids' : List ℕ) (w : PairTooWide) → y ≡ 257 → Connected kids₀ nodes sizes live kids' (Err w)
        turn_refused nodes sizes live kids' w e = go found
          where
            go : Scanned G T M H (G.start - suc t) y → Connected kids₀ nodes sizes live kids' (Err w)
            go (ends z q) = absurd (omega arith)
            go (refuses z q) = too_wide w refl (more ∙ q)
            go (chooses z q) = absurd (omega arith)

        chosen : (y ≡ 256 → ⊥) → (y ≡ 257 → ⊥) → Chosen G T M H y
        chosen a b = go found
          where
            go : Scanned G T M H (G.start - suc t) y → Chosen G T M H y
            go (ends z q) = absurd (a z)
            go (refuses z q) = absurd (b z)
            go (chooses z q) = q

        -- the least pair is merged
        module _ (z : ℕ) (ez : z ≡ n0 + t) (words' nodes' sizes' live' rows' kids' : List ℕ)
            (e₁ : words' ≡ with_set words w z (merged_set words w (first_at n0 rows y) (second_at n0 rows y)))
            (e₂ : nodes' ≡ set M.nodes z (n + (count + t)))
            (e₃ : sizes' ≡ set M.sizes z (get_or rows y 0 / 512))
            (e₄ : live' ≡ remaining (first_at n0 rows y) (second_at n0 rows y) M.live ++ (z ∷ []))
            (e₅ : rows' ≡ marked rows (first_at n0 rows y) (second_at n0 rows y) z)
            (e₆ : kids' ≡ with_node kids (count + t) (get_or M.nodes (first_at n0 rows y) 0) (get_or M.nodes (second_at n0 rows y) 0))
            (n₁ : y ≡ 256 → ⊥) (n₂ : y ≡ 257 → ⊥)
          where
            abbrev c : Chosen G T M H y
            c = chosen n₁ n₂

            abbrev f : ℕ
            f = first_of G.start c.x y

            abbrev g : ℕ
            g = second_of G.start c.x y

            slot_is : get_or rows y 0 % 512 ≡ c.x
            slot_is =
                ap (λ (l : List ℕ). get_or l y 0 % 512) rows_are
                ∙ ap (λ (r : ℕ). r % 512) c.code ∙ code_slot (merged_size N (pair_at G.start T.tree c.x y)) c.x (small G T M H c.x c.in_x)

            first_is : first_at n0 rows y ≡ f
            first_is = ap₂ (λ (a b : ℕ). first_of a b y) start.tables slot_is

            second_is : second_at n0 rows y ≡ g
            second_is = ap₂ (λ (a b : ℕ). second_of a b y) start.tables slot_is

            z_is : z ≡ T.next
            z_is = omega (arith, ez, R.next, start.tables)

            abbrev M' : Lists
            M' = record { words = words'; nodes = nodes'; sizes = sizes'; live = live'; rows = rows' }

            lists_are : M' ≡ next_lists G T M H y c
            lists_are =
                let p₁ : words' ≡ with_set (words₁ G T M H) G.width T.next (merged_set (words₁ G T M H) G.width f g) =
                e₁ ∙ ap₂ (λ (a b : ℕ). with_set words w z (merged_set words w a b)) first_is second_is
                ∙ ap₂ (λ (l : List ℕ) (v : ℕ). with_set l v z (merged_set l v f g)) words_are start.width
                ∙ ap (λ (u : ℕ). with_set (words₁ G T M H) G.width u (merged_set (words₁ G T M H) G.width f g)) z_is in
                let p₂ : nodes' ≡ set M.nodes T.next (leaf_count N + length T.array) =
                e₂ ∙ ap₂ (λ (u v : ℕ). set M.nodes u v) z_is (omega (arith, start.leaves, start.made, R.made)) in
                let p₃ : sizes' ≡ set M.sizes T.next (get_or (rows₁ G T M H) y 0 / 512) =
                e₃ ∙ ap₂ (λ (u : ℕ) (l : List ℕ). set M.sizes u (get_or l y 0 / 512)) z_is rows_are in
                let p₄ : live' ≡ remaining f g T.slots ++ (T.next ∷ []) =
                e₄ ∙ ap₂ (λ (a b : ℕ). remaining a b M.live ++ (z ∷ [])) first_is second_is
                ∙ ap₂ (λ (l : List ℕ) (u : ℕ). remaining f g l ++ (u ∷ [])) H.lived z_is in
                let p₅ : rows' ≡ marked (rows₁ G T M H) f g T.next =
                e₅ ∙ ap₂ (λ (a b : ℕ). marked rows a b z) first_is second_is ∙ ap₂ (λ (l : List ℕ) (u : ℕ). marked l f g u) rows_are z_is in
                λ i. record { words = p₁ i; nodes = p₂ i; sizes = p₃ i; live = p₄ i; rows = p₅ i }

            number_is : (u v : ℕ) → u ≡ v → memb v T.slots ≡ true → get_or M.nodes u 0 ≡ number (T.tree v)
            number_is u v e i = ap (λ (k : ℕ). get_or M.nodes k 0) e ∙ H.numbers v (used G T M H v i)

            pub turn_merges : Reached kids₀ (t + 1) M' kids'
            turn_merges =
                record {
                  state = next_ghost G T M H y c;
                  holds = subst (Holds G (next_ghost G T M H y c)) (sym lists_are) (holds' G T M H y c);
                  next = omega (arith, R.next);
                  left = omega (arith, R.left, count' G T M H y c);
                  made = omega (arith, R.made, length-append T.array (record { left = number (T.tree f); right = number (T.tree g) } ∷ []));
                  written = put_node kids₀ kids kids' T.array (T.tree f) (T.tree g) (count + t) _ _ R.written (omega (arith, start.made, R.made))
                      (number_is (first_at n0 rows y) f first_is (in_f G T M H y c)) (number_is (second_at n0 rows y) g second_is (in_g G T M H y c)) e₆;
                  same = more ∙ turn_on G T M H y c (G.start - suc t)
                      ∙ ap (λ (k : ℕ). connect N G.start (G.start - k) (state_of (next_ghost G T M H y c))) (sym (add-one t));
                }

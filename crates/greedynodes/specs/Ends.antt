-- From the merging and the rest to greedy's answer. Assumes nothing.
use Rattle.std.specs.Prelude.{◌≡◌, refl, List, [], ◌∷◌, ℕ, ◌+◌, ◌-◌, ◌*◌, ◌≤◌, ◌<◌, length, Result, Err, Ok}
use Rattle.std.proofs.Common.{sym, ◌∙◌, ap, subst, arith}
use Rattle.std.proofs.Math.Path.{ap₂}
use Rattle.std.proofs.Math.Decide.{dec_le}
use Rattle.std.proofs.lemmas.List.{length-map}
use Rattle.spec.specs.Memory.{over}
use Rattle.spec.specs.Network.{Network}
use Rattle.spec.specs.Tree.{Tree, leaf, number, Pair, flat_of}
use Rattle.network.specs.declared.accepted.Accepted.{Accepted}
use Rattle.spec.specs.declared.Refusal.{Refusal}
use Rattle.spec.specs.declared.Refusal.TheVariants.{TableTooWide}
use Rattle.tables.specs.declared.PairTooWide.{PairTooWide}
use Rattle.spec.specs.Greedy.{State, connect, Built, finish, leaves_of, greedy_from}
use Rattle.laws.specs.GreedyMerging.{connect_some}
use Rattle.laws.specs.ListLaws.{range_length}
use Rattle.merging.specs.Holds.{Given, Ghost, state_of, count_trees, used_slots}
use Rattle.merging.specs.Connect.{Final, Connected, too_wide, ended}
use Rattle.rest.specs.Joined.{Rest, Joined, built_of}
use Rattle.greedynodes.specs.Begin.{Asks, given, ghost, state_is}

-- what greedy over a list of leaves answers: a refusal, or the number of the tree that is built; the array's children stand at the front of
-- `kids`
pub data Planned (N : Network) (a : List Pair) (leaves kids₀ kids : List ℕ) (r : Result ℕ Refusal) : Type 0 where
  is_too_wide : r ≡ Err TableTooWide → greedy_from N a (leaves_of leaves) ≡ Err TableTooWide → Planned N a leaves kids₀ kids r
  is_planned : (top : ℕ) → r ≡ Ok top → top < 65536 → (b : Built) → greedy_from N a (leaves_of leaves) ≡ Ok b → kids ≡ over kids₀ (flat_of b.pairs)
      → length b.pairs ≡ length a + (length leaves - 1) → (0 < length leaves → (t : Tree) × (b.tops ≡ t ∷ []) × (top ≡ number t))
      → Planned N a leaves kids₀ kids r

-- greedy answers so over a list of leaves of every network that the lent lists hold, and every array so far
abbrev pub Plans : (n made : ℕ) (weights counts legs outputs leaves kids kids' : List ℕ) (r : Result ℕ Refusal) → Type 0
Plans n made weights counts legs outputs leaves kids kids' r =
    (N : Network) (a : List Pair) → Asks N a n made weights counts legs outputs leaves kids → Planned N a leaves kids kids' r

-- the same over an accepted network's lists
abbrev pub PlansOver : (A : Accepted) (made : ℕ) (leaves kids kids' : List ℕ) (r : Result ℕ Refusal) → Type 0
PlansOver A made leaves kids kids' r = Plans (length A.leg_counts.now) made A.weights.now A.leg_counts.now A.legs.now A.outputs.now leaves kids kids' r

-- how many turns the merging made
abbrev turns_in : Result ℕ PairTooWide → ℕ
turns_in (Err r) = 0
turns_in (Ok t) = t

-- an answer is no refusal
abbrev answered : {E : Type 0} → Result ℕ E → Type 0
answered (Ok t) = ◌≡◌ {A = ℕ} 0 0
answered (Err r) = ⊥

pub apart : {E : Type 0} {t : ℕ} {r : E} → ◌≡◌ {A = Result ℕ E} (Ok t) (Err r) → ⊥
apart e = subst answered e refl

module _ (N : Network) (a : List Pair) (W n made : ℕ) (weights counts cells outputs leaves kids : List ℕ)
    (asks : Asks N a n made weights counts cells outputs leaves kids) (fits : length weights ≤ W * 64) (few_leaves : n ≤ W * 64)
    (few : length leaves ≤ 128) (ws₀ : List ℕ) (room : 258 * W + W ≤ length ws₀)
  where
    abbrev G : Given
    G = given N a W n made weights counts cells outputs leaves kids asks fits few_leaves few ws₀ room

    abbrev S : Ghost
    S = ghost N a W n made weights counts cells outputs leaves kids asks fits few_leaves few ws₀ room

    from_is : greedy_from N a (leaves_of leaves) ≡ finish N (connect N (length leaves) (length leaves) (state_of S))
    unfolding greedy_from
    from_is =
        ap₂ (λ (k : ℕ) (s : State). finish N (connect N k k s)) (length-map leaves (λ i. leaf i))
        (sym (state_is N a W n made weights counts cells outputs leaves kids asks fits few_leaves few ws₀ room))

    -- refused
    pub answer_refused : (nodes sizes live kids₁ kids₂ : List ℕ) (r : Result ℕ PairTooWide) (w : PairTooWide) → r ≡ Err w → Connected G S kids nodes sizes live kids₁ r
        → Planned N a leaves kids kids₂ (Err TableTooWide)
    answer_refused nodes sizes live kids₁ kids₂ r w e (too_wide u z q) = is_too_wide refl (from_is ∙ ap (finish N) q)
    answer_refused nodes sizes live kids₁ kids₂ r w e (ended t z F) = absurd (apart (sym z ∙ e))

    module _ (nodes sizes live kids₁ : List ℕ) (t : ℕ) where
      final : Connected G S kids nodes sizes live kids₁ (Ok t) → Final G S kids nodes sizes live kids₁ t
      final (too_wide u z q) = absurd (apart z)
      final (ended u z F) = subst (Final G S kids nodes sizes live kids₁) (sym (ap turns_in z)) F

      rest_of : (F : Final G S kids nodes sizes live kids₁ t)
          → Rest N F.state.tree F.state.slots F.state.array n (made + t) (length live) nodes sizes live kids kids₁
      rest_of F =
          let T = F.state in
          let used = used_slots N G.base G.lo G.all T.array T.tree T.slots T.next F.sound in
          record {
            rising = F.sound.rising;
            size = λ u m. F.size u (used u m);
            numbers = λ u m. F.numbers u (used u m);
            lived = F.lived;
            many = sym (ap length F.lived);
            leaves = asks.lends.leaves;
            made = omega (arith, F.made, asks.array);
            written = F.written;
          }

      -- as many tables are left as the turns left of the leaves
      live_left : Final G S kids nodes sizes live kids₁ t → length live ≡ length leaves - t
      live_left F = omega (arith, ap length F.lived, F.left)

      -- the rest was joined
      pub answer_built : (c : Connected G S kids nodes sizes live kids₁ (Ok t)) (kids₂ : List ℕ) (r : ℕ) → r < 65536
          → ((N : Network) (tree : ℕ → Tree) (L : List ℕ) (a : List Pair) (before : List ℕ) → Rest N tree L a n (made + t) (length live) nodes sizes live before kids₁
          → Joined N tree L a (length live) before kids₂ r)
          → Planned N a leaves kids kids₂ (Ok r)
      answer_built c kids₂ r low f =
          let F = final c in
          let T = F.state in
          let l : length live ≡ length leaves - t = live_left F in
          let J : Joined N T.tree T.slots T.array (length live) kids kids₂ r = f N T.tree T.slots T.array kids (rest_of F) in
          let some : 0 < length leaves → 0 < length live = λ h.
          omega (
            arith,
            connect_some N (length leaves) (length leaves) (state_of S) (state_of T) F.same
                (omega (arith, count_trees S.tree S.slots, range_length 0 (length leaves))),
            count_trees T.tree T.slots,
            F.left,
            l,
          ) in
          is_planned r refl low (built_of N T.tree T.slots T.array) (from_is ∙ ap (finish N) F.same) J.written
          (lengths (length leaves) t (length live) (length a) (length T.array) _ (length T.slots) l J.made F.made F.left some)
          (λ h. J.top (some h))
        where
          lengths : (l t m x y z k : ℕ) → m ≡ l - t → z ≡ y + (m - 1) → y ≡ x + t → k + t ≡ l → (0 < l → 0 < m) → z ≡ x + (l - 1)
          lengths l t m x y z k e p q s h =
              elim (dec_le l 0) [
                | yes e' ↦ omega (arith, e, p, q, s)
                | no e' ↦ omega (arith, e, p, q, s, h (omega arith))
              ]

      -- the same, where the rest is joined by how many leaves the turns left
      pub answer_left : (c : Connected G S kids nodes sizes live kids₁ (Ok t)) (kids₂ : List ℕ) (r : ℕ) → r < 65536
          → ((N : Network) (tree : ℕ → Tree) (L : List ℕ) (a : List Pair) (before : List ℕ) → Rest N tree L a n (made + t) (length leaves - t) nodes sizes live before kids₁
          → Joined N tree L a (length leaves - t) before kids₂ r)
          → Planned N a leaves kids kids₂ (Ok r)
      answer_left c kids₂ r low f =
          answer_built c kids₂ r low
          (subst (λ (k : ℕ). (N : Network) (tree : ℕ → Tree) (L : List ℕ) (a : List Pair) (before : List ℕ) → Rest N tree L a n (made + t) k nodes sizes live before kids₁
          → Joined N tree L a k before kids₂ r) (sym (live_left (final c))) f)

-- LAW B4: bisection refuses by nothing but 12 and 13. Assumes nothing.
use Rattle.std.specs.Prelude.{◌≡◌, ◌⊎◌, Bool, true, false, ◌||◌, cond, List, [], ◌∷◌, ℕ, zero, suc, max, eqb, leb, Float, length, Result, Err, Ok}
use Rattle.std.proofs.Common.{sym, inl, inr}
use Rattle.spec.specs.Lists.{range}
use Rattle.spec.specs.Network.{Network, leaf_count}
use Rattle.spec.specs.Tree.{Tree, Pair}
use Rattle.spec.specs.declared.Refusal.{Refusal}
use Rattle.spec.specs.declared.Refusal.TheVariants.{TableTooWide, DrawsExhausted}
use Rattle.spec.specs.Draws.{Words, Drawn, lent_words}
use Rattle.spec.specs.Greedy.{Cand, State, Built, any_wide, turn, merge, least, connect, sharing_pairs, finish, start_of, leaves_of, greedy_from}
use Rattle.spec.specs.Hypergraph.{hypergraph_of}
use Rattle.spec.specs.Bisection.{imbalance, Halved, left_half, right_half, small_end, halves, split, bisect, bisect_rec, bisection}
use Rattle.spec.specs.BisectionClaims.{OnlyWideOrExhausted}
use Rattle.laws.specs.Booleans.{by_cases}
use Rattle.laws.specs.Results.{refused_same, not_refused, then_refused}

-- ---- greedy ----

turn_refused : (N : Network) (cs : List Cand) (s : State) (go : State → Result State Refusal) (k : Refusal) → turn N cs s go ≡ Err k
    → ((c : Cand) (l : List Cand) → go (merge N (least N c l) s) ≡ Err k → k ≡ TableTooWide) → k ≡ TableTooWide
turn_refused N [] s go k e h = not_refused s k e
turn_refused N (c ∷ l) s go k e h =
    by_cases (any_wide N (c ∷ l))
    (λ q. sym (refused_same {A = State} TableTooWide k (rw q at e)))
    (λ q. h c l (rw q at e))

connect_refused : (N : Network) (n₀ fuel : ℕ) (s : State) (k : Refusal) → connect N n₀ fuel s ≡ Err k → k ≡ TableTooWide
connect_refused N n₀ zero s k e = not_refused s k e
connect_refused N n₀ (suc fuel) s k e =
    turn_refused N (sharing_pairs N n₀ s.live) s (λ s'. connect N n₀ fuel s') k e (λ c l q. connect_refused N n₀ fuel (merge N (least N c l) s) k q)

finish_refused : (N : Network) (r : Result State Refusal) (k : Refusal) → finish N r ≡ Err k → (r ≡ Err k → k ≡ TableTooWide) → k ≡ TableTooWide
finish_refused N (Err j) k e h = h (cc (refused_same {A = Built} j k e))
finish_refused N (Ok s) k e h = not_refused _ k e

pub greedy_refused : (N : Network) (a : List Pair) (ts : List Tree) (k : Refusal) → greedy_from N a ts ≡ Err k → k ≡ TableTooWide
unfolding greedy_from
greedy_refused N a ts k e =
    finish_refused N (connect N (length ts) (length ts) (start_of a ts)) k e (connect_refused N (length ts) (length ts) (start_of a ts) k)

-- ---- bisection ----

module _ (N : Network) (eps : Float) (cutoff : ℕ) (k : Refusal) where
  abbrev Only : Type 0
  Only = (k ≡ TableTooWide) ⊎ (k ≡ DrawsExhausted)

  small_refused : (leaves : List ℕ) (a : List Pair) (ws : Words) → small_end N eps cutoff leaves a ws ≡ Err k → Only
  small_refused leaves a ws e =
      then_refused (greedy_from N a (leaves_of leaves)) _ k e (λ q. inl (greedy_refused N a (leaves_of leaves) k q)) (λ x _ q. not_refused _ k q)

  split_refused : (fuel : ℕ) → ((leaves : List ℕ) (a : List Pair) (ws : Words) → bisect_rec N eps cutoff fuel leaves a ws ≡ Err k → Only)
      → (leaves : List ℕ) (a : List Pair) (d : Drawn (List ℕ)) → split N eps cutoff (λ l b w. bisect_rec N eps cutoff fuel l b w) leaves a d ≡ Err k → Only
  split_refused fuel rec leaves a d e = go d.words.exhausted (eqb (length (left_half d.value leaves)) 0 || eqb (length (right_half d.value leaves)) 0) e
    where
      go : (s t : Bool) → cond s (Err DrawsExhausted) (cond t (small_end N eps cutoff leaves a d.words)
          (halves N eps cutoff (λ l b w. bisect_rec N eps cutoff fuel l b w) (left_half d.value leaves) (right_half d.value leaves) a d.words)) ≡ Err k → Only
      go true t e = inr (sym (refused_same {A = Halved} DrawsExhausted k e))
      go false true e = small_refused leaves a d.words e
      go false false e =
          then_refused (bisect_rec N eps cutoff fuel (left_half d.value leaves) a d.words) _ k e (rec _ a d.words)
          (λ x _ q. then_refused (bisect_rec N eps cutoff fuel (right_half d.value leaves) x.built.pairs x.words) _ k q (rec _ x.built.pairs x.words)
          (λ y _ p. not_refused _ k p))

  rec_refused : (fuel : ℕ) (leaves : List ℕ) (a : List Pair) (ws : Words) → bisect_rec N eps cutoff fuel leaves a ws ≡ Err k → Only
  rec_refused zero leaves a ws e = small_refused leaves a ws e
  rec_refused (suc fuel) leaves a ws e =
      by_cases (leb (length leaves) (max cutoff 2))
      (λ q. small_refused leaves a ws (rw q at e))
      (λ q. split_refused fuel (rec_refused fuel) leaves a (bisect (hypergraph_of N leaves) eps ws) (rw q at e))

pub only_wide_or_exhausted : OnlyWideOrExhausted
unfolding bisection
only_wide_or_exhausted N i cutoff words r e =
    then_refused (bisect_rec N (imbalance i) cutoff (leaf_count N) (range (leaf_count N)) [] (lent_words words)) _ r e
    (rec_refused N (imbalance i) cutoff r (leaf_count N) (range (leaf_count N)) [] (lent_words words)) (λ x _ q. not_refused _ r q)

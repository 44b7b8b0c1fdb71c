-- LAW G7: greedy over any trees, onto any array, refuses only by 12, and just if it comes to a state with a pair that is too wide; and what an
-- answer comes from. Assumes nothing.
use Rattle.std.specs.Prelude.{◌≡◌, true, false, cond, List, [], ◌∷◌, ◌++◌, ℕ, zero, suc, ◌+◌, ◌-◌, ◌≤◌, ◌<◌, length, Result, Err, Ok}
use Rattle.std.proofs.Math.Path.{refl}
use Rattle.std.proofs.Common.{sym, ap, ◌∙◌, subst, arith}
use Rattle.spec.specs.Members.{All}
use Rattle.spec.specs.Network.{Network}
use Rattle.spec.specs.Tree.{Tree, Pair}
use Rattle.spec.specs.declared.Refusal.{Refusal}
use Rattle.spec.specs.declared.Refusal.TheVariants.{TableTooWide}
use Rattle.spec.specs.Greedy.{Live, Cand, sharing_pairs, least, any_wide, State, off, joined, merge, turn, connect, Built, trees, finish, slots, start_of, greedy_from}
use Rattle.spec.specs.EndClaims.{pairs_after, ReachedFrom, begin_from, then_from, RefusesFrom, EndsFrom, AnswersFrom}
use Rattle.laws.specs.Booleans.{by_cases, clash}
use Rattle.laws.specs.ListLaws.{sum_length}
use Rattle.laws.specs.MemberLaws.{all_append, all_map, all_in}
use Rattle.laws.specs.Results.{not_done, done_same, refused_same}
use Rattle.laws.specs.GreedyForest.{takes_last}
use Rattle.laws.specs.GreedyOrder.{least_least}
use Rattle.laws.specs.GreedyMerging.{Rising, rising_off, rising_last, off_all, Fine, pairs_fine, takes₁, takes₂, trees-append, trees-slots, slots_rising, slots_below, turn_cases}

module _ (N : Network) (a : List Pair) (ts : List Tree) where
  -- ---- each merge leaves one table less ----

  record Fewer (k : ℕ) (s : State) : Type 0 where
    rising : Rising 0 s.live
    slotted : All (λ x. x.slot < s.next) s.live
    amount : k + length (trees s.live) ≡ length ts

  merge_fewer : (k : ℕ) (s : State) (c : Cand) → Fewer k s → Fine s.live c → Fewer (suc k) (merge N c s)
  merge_fewer k s c g f =
      let x = c.first in
      let y = c.second in
      let l₁ = off x.slot s.live in
      let l₂ = off y.slot l₁ in
      let t = joined N s.pairs x.tree y.tree in
      let low : All (λ z. z.slot < s.next) l₂ = off_all _ y.slot l₁ (off_all _ x.slot s.live g.slotted) in
      record {
        rising = rising_last 0 l₂ _ (rising_off y.slot 0 l₁ (rising_off x.slot 0 s.live g.rising)) (omega arith) low;
        slotted = all_append _ l₂ _ (all_map _ _ l₂ (λ z h. omega arith) low) (omega arith, tt);
        amount =
            rw (trees-append l₂ (record { slot = s.next; tree = t } ∷ []))
            (omega (
              arith,
              g.amount,
              (takes₁ s g.rising c f).sums (λ t. 1),
              (takes₂ s g.rising c f).sums (λ t. 1),
              (takes_last t (trees l₂)).sums (λ t. 1),
              sum_length (trees s.live),
              sum_length (trees l₂ ++ (t ∷ [])),
            ));
      }

  reached_fewer : (k : ℕ) (s : State) → ReachedFrom N a ts k s → Fewer k s
  reached_fewer k s begin_from =
      record {
        rising = slots_rising 0 ts;
        slotted = all_map _ _ (slots 0 ts) (λ x h. omega arith) (slots_below 0 ts);
        amount = rw (trees-slots 0 ts) (omega arith);
      }
  reached_fewer k s (then_from {k = k'} {s = s'} c l r e w) =
      let g = reached_fewer k' s' r in
      let h : All (Fine s'.live) (c ∷ l) = subst (All (Fine s'.live)) e (pairs_fine N (length ts) s'.live g.rising) in
      merge_fewer k' s' (least N c l) g (all_in (Fine s'.live) (least N c l) (c ∷ l) h (least_least N c l).member)

  -- ---- the merging, by the states that it goes through ----

  abbrev run : ℕ → State → Result State Refusal
  run fuel s = connect N (length ts) fuel s

  -- a reached state with a pair that is too wide
  abbrev Wide : Type 0
  Wide = (k : ℕ) × (s : State) × ReachedFrom N a ts k s × (any_wide N (pairs_after N (length ts) s) ≡ true)

  connect_refuses : (fuel k : ℕ) (s : State) (r : Refusal) → ReachedFrom N a ts k s → run fuel s ≡ Err r → (r ≡ TableTooWide) × Wide
  connect_refuses zero k s r h e = not_done r s (sym e)
  connect_refuses (suc fuel) k s r h e =
      go (pairs_after N (length ts) s) refl e (λ c l p w. connect_refuses fuel (suc k) (merge N (least N c l) s) r (then_from c l h p w))
    where
      go : (cs : List Cand) → pairs_after N (length ts) s ≡ cs → turn N cs s (λ s'. run fuel s') ≡ Err r
          → ((c : Cand) (l : List Cand) → pairs_after N (length ts) s ≡ c ∷ l → any_wide N (c ∷ l) ≡ false
          → run fuel (merge N (least N c l) s) ≡ Err r → (r ≡ TableTooWide) × Wide)
          → (r ≡ TableTooWide) × Wide
      go [] p q on = not_done r s (sym q)
      go (c ∷ l) p q on =
          by_cases (any_wide N (c ∷ l))
          (λ w. (sym (refused_same TableTooWide r (rw w at q)), (k, s, h, ap (any_wide N) p ∙ w)))
          (λ w. on c l p w (rw w at q))

  -- the run from the start goes on from each reached state
  reached_connect : (k : ℕ) (s : State) → ReachedFrom N a ts k s → (fuel : ℕ) → run (k + fuel) (start_of a ts) ≡ run fuel s
  reached_connect k s begin_from fuel = ap (λ x. run x (start_of a ts)) (let z : 0 + fuel ≡ fuel = omega arith in z)
  reached_connect k s (then_from {k = k'} {s = s'} c l r e w) fuel =
      ap (λ x. run x (start_of a ts)) (let z : suc k' + fuel ≡ k' + suc fuel = omega arith in z)
      ∙ reached_connect k' s' r (suc fuel)
      ∙ ap (λ x. turn N x s' (λ s. run fuel s)) e
      ∙ ap (λ b. cond b (Err TableTooWide) (run fuel (merge N (least N c l) s'))) w

  -- a pair that is too wide is a pair of live tables, so the merging is not at its end
  some_live : (l : List Live) → any_wide N (sharing_pairs N (length ts) l) ≡ true → 1 ≤ length (trees l)
  some_live [] w = clash w refl
  some_live (x ∷ l) w = omega arith

  wide_refused : (k : ℕ) (s : State) → ReachedFrom N a ts k s → any_wide N (pairs_after N (length ts) s) ≡ true
      → run (length ts) (start_of a ts) ≡ Err TableTooWide
  wide_refused k s h w =
      let b : k < length ts = omega (arith, (reached_fewer k s h).amount, some_live s.live w) in
      ap (λ z. run z (start_of a ts)) (let z : length ts ≡ k + suc (length ts - suc k) = omega arith in z)
      ∙ reached_connect k s h (suc (length ts - suc k))
      ∙ go (pairs_after N (length ts) s) w
    where
      go : (cs : List Cand) → any_wide N cs ≡ true → turn N cs s (λ s'. run (length ts - suc k) s') ≡ Err TableTooWide
      go [] e = clash e refl
      go (c ∷ l) e = rw e

  -- an answer: no pair is left
  no_tables : (l : List Live) → length (trees l) ≡ 0 → sharing_pairs N (length ts) l ≡ []
  no_tables [] z = refl
  no_tables (x ∷ l) z = absurd (omega arith)

  abbrev Last : State → Type 0
  Last s = (k : ℕ) × ReachedFrom N a ts k s × (pairs_after N (length ts) s ≡ [])

  connect_last : (fuel k : ℕ) (s s' : State) → ReachedFrom N a ts k s → length ts ≤ k + fuel → run fuel s ≡ Ok s' → Last s'
  connect_last zero k s s' r h e =
      subst Last (done_same s s' e) (k, r, no_tables s.live (omega (arith, (reached_fewer k s r).amount)))
  connect_last (suc fuel) k s s' r h e =
      turn_cases N (pairs_after N (length ts) s) s (λ s'. run fuel s') s' e
      (λ p q. subst Last q (k, r, p))
      (λ c l p w q. connect_last fuel (suc k) (merge N (least N c l) s) s' (then_from c l r p w) (omega arith) q)

  -- ---- greedy refuses just as the merging does ----

  abbrev merging : Result State Refusal
  merging = run (length ts) (start_of a ts)

  greedy_is : greedy_from N a ts ≡ finish N merging
  unfolding greedy_from
  greedy_is = refl

  finish_refuses : (x : Result State Refusal) (r : Refusal) → finish N x ≡ Err r → x ≡ Err r
  finish_refuses (Err k) r e = ap Err (refused_same k r e)
  finish_refuses (Ok s) r e = not_done r _ (sym e)

  from_refused : (r : Refusal) → greedy_from N a ts ≡ Err r → (r ≡ TableTooWide) × Wide
  from_refused r e = connect_refuses (length ts) 0 (start_of a ts) r begin_from (finish_refuses merging r (sym greedy_is ∙ e))

  answer_or : (x : Result Built Refusal) → ((r : Refusal) → x ≡ Err r → ⊥) → (b : Built) × (x ≡ Ok b)
  answer_or (Err r) h = absurd (h r refl)
  answer_or (Ok b) h = (b, refl)

pub refuses_from : RefusesFrom
refuses_from N a ts =
    record {
      only = λ r e. (from_refused N a ts r e).0;
      because = λ r e. (from_refused N a ts r e).1;
      whenever = λ k s h w. greedy_is N a ts ∙ ap (finish N) (wide_refused N a ts k s h w);
      otherwise = λ h. answer_or N a ts (greedy_from N a ts)
          (λ r e. let (k, s, g, w) = (from_refused N a ts r e).1 in clash w (h k s g));
    }

pub ends_from : EndsFrom
ends_from N a ts b e = go (merging N a ts) refl (sym (greedy_is N a ts) ∙ e)
  where
    go : (x : Result State Refusal) → merging N a ts ≡ x → finish N x ≡ Ok b → AnswersFrom N a ts b
    go (Err r) p q = not_done r b q
    go (Ok s) p q =
        let (k, r, z) = connect_last N a ts (length ts) 0 (start_of a ts) s begin_from (omega arith) p in
        record { merges = k; last = s; reached = r; ended = z; joins = done_same _ b q }

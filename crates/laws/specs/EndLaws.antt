-- LAW B8: bisection is refused 12 just if it comes to a small end that greedy refuses by 12; LAW B9: and 13 just if it comes to leaves in whose
-- partition a draw is due past the words' end. Assumes nothing.
use Rattle.std.specs.Prelude.{◌≡◌, refl, ◌⊎◌, Bool, true, false, ◌||◌, cond, ℕ, zero, suc, ◌+◌, ◌≤◌, ◌<◌, max, eqb, leb, Float, length, Result, Err, Ok}
use Rattle.std.proofs.Common.{sym, ◌∙◌, inl, inr, arith, eqb-true, eq-eqb, ne_eqb, le-leb, leb-true, leb-false}
use Rattle.std.proofs.Math.Path.{ap}
use mathlib.Core.List.{List, [], ◌∷◌}
use Rattle.std.proofs.lemmas.Bool.{eqb-false, lt-leb}
use Rattle.spec.specs.Lists.{count, from, range}
use Rattle.spec.specs.Members.{All}
use Rattle.spec.specs.Network.{Network, leaf_count}
use Rattle.spec.specs.Tree.{Pair}
use Rattle.spec.specs.Refusal.{number_of, and_then}
use Rattle.spec.specs.declared.Refusal.{Refusal}
use Rattle.spec.specs.declared.Refusal.TheVariants.{TableTooWide, DrawsExhausted}
use Rattle.spec.specs.Draws.{Words, Drawn, lent_words}
use Rattle.spec.specs.Greedy.{leaves_of, greedy_from}
use Rattle.spec.specs.Hypergraph.{hypergraph_of}
use Rattle.spec.specs.Bisection.{imbalance, Halved, with_words, left_half, right_half, small_end, join_halves, halves, split, bisect, bisect_rec, bisected_from, bisection}
use Rattle.spec.specs.EndClaims.{Partitioned, TwoHalves, Comes, itself, in_left, in_right, SmallEnd, few, whole, Met, WideEnd, WideByGreedy, ExhaustedPart, ExhaustedByDraws}
use Rattle.laws.specs.Booleans.{by_cases, or_cases, or_none, or_introl, or_intror}
use Rattle.laws.specs.ListLaws.{range_length, no_members}
use Rattle.laws.specs.Results.{refused_same, not_refused, then_refused}
use Rattle.laws.specs.GreedyForest.{leaves_single}
use Rattle.laws.specs.BisectionHalves.{members_all, members_count, halves_length, on_zero, fuel_enough}
use Rattle.laws.specs.GreedyFrom.{refuses_from}

-- ---- what a refusal comes from ----

module _ (N : Network) (eps : Float) (cutoff : ℕ) where
  abbrev left : List ℕ → Drawn (List ℕ) → List ℕ
  left leaves d = left_half d.value leaves

  abbrev right : List ℕ → Drawn (List ℕ) → List ℕ
  right leaves d = right_half d.value leaves

  abbrev sided : List ℕ → Drawn (List ℕ) → Bool
  sided leaves d = eqb (length (left leaves d)) 0 || eqb (length (right leaves d)) 0

  -- bisection of a half
  abbrev part : ℕ → List ℕ → List Pair → Words → Result Halved Refusal
  part fuel l b w = bisect_rec N eps cutoff fuel l b w

  -- a refusal stands where it is met: at a small end, or at a partition
  abbrev Refused : Refusal → List ℕ → List Pair → Words → Type 0
  Refused k leaves a ws =
      (SmallEnd N eps cutoff leaves ws × (greedy_from N a (leaves_of leaves) ≡ Err k))
      ⊎ ((d : Drawn (List ℕ)) × Partitioned N eps cutoff leaves ws d true × (DrawsExhausted ≡ k))

  -- where bisection of some leaves comes to
  record Place (k : Refusal) (leaves : List ℕ) (a : List Pair) (ws : Words) : Type 0 where
    end : List ℕ
    onto : List Pair
    rest : Words
    comes : Comes N eps cutoff leaves a ws end onto rest
    there : Refused k end onto rest
    low : (n : ℕ) → All (λ v. v < n) leaves → All (λ v. v < n) end
    fewer : (v : ℕ) → count v end ≤ count v leaves

  at_itself : (k : Refusal) (leaves : List ℕ) (a : List Pair) (ws : Words) → Refused k leaves a ws → Place k leaves a ws
  at_itself k leaves a ws r =
      record { end = leaves; onto = a; rest = ws; comes = itself; there = r; low = λ n h. h; fewer = λ v. omega arith }

  small_refused : (k : Refusal) (leaves : List ℕ) (a : List Pair) (ws : Words) → small_end N eps cutoff leaves a ws ≡ Err k
      → greedy_from N a (leaves_of leaves) ≡ Err k
  small_refused k leaves a ws e = then_refused (greedy_from N a (leaves_of leaves)) _ k e (λ q. q) (λ x p q. not_refused _ k q)

  one_side : (leaves : List ℕ) (d : Drawn (List ℕ)) → sided leaves d ≡ true → (left leaves d ≡ []) ⊎ (right leaves d ≡ [])
  one_side leaves d e =
      or_cases (eqb (length (left leaves d)) 0) _ e
      (λ q. inl (no_members (left leaves d) (eqb-true _ 0 q)))
      (λ q. inr (no_members (right leaves d) (eqb-true _ 0 q)))

  two_sides : (leaves : List ℕ) (d : Drawn (List ℕ)) → sided leaves d ≡ false → TwoHalves leaves d.value
  two_sides leaves d e =
      let (z, w) = or_none _ _ e in
      let z₁ : length (left_half d.value leaves) ≡ 0 → ⊥ = eqb-false _ 0 z in
      let w₁ : length (right_half d.value leaves) ≡ 0 → ⊥ = eqb-false _ 0 w in
      record { left = omega (arith, z₁); right = omega (arith, w₁) }

  abbrev Rec : Refusal → ℕ → Type 0
  Rec k fuel = (leaves : List ℕ) (a : List Pair) (ws : Words) → length leaves ≤ fuel → bisect_rec N eps cutoff fuel leaves a ws ≡ Err k
      → Place k leaves a ws

  module _ (k : Refusal) (fuel : ℕ) (rec : Rec k fuel) (leaves : List ℕ) (a : List Pair) (ws : Words) (d : Drawn (List ℕ)) (bound : length leaves ≤ suc fuel) where
    in_halves : Partitioned N eps cutoff leaves ws d false → TwoHalves leaves d.value
        → halves N eps cutoff (part fuel) (left leaves d) (right leaves d) a d.words ≡ Err k → Place k leaves a ws
    in_halves p t e =
        let len = halves_length d.value leaves in
        let lₗ : length (left leaves d) ≤ fuel = omega (arith, len, t.right) in
        let lᵣ : length (right leaves d) ≤ fuel = omega (arith, len, t.left) in
        then_refused (part fuel (left leaves d) a d.words) _ k e
        (λ q. let f = rec (left leaves d) a d.words lₗ q in
        record {
          end = f.end;
          onto = f.onto;
          rest = f.rest;
          comes = in_left d p t f.comes;
          there = f.there;
          low = λ n h. f.low n (members_all _ _ 0 leaves h);
          fewer = λ v. omega (arith, f.fewer v, members_count (on_zero d.value) v 0 leaves);
        })
        (λ x q s. then_refused (part fuel (right leaves d) x.built.pairs x.words) _ k s
        (λ r. let f = rec (right leaves d) x.built.pairs x.words lᵣ r in
        record {
          end = f.end;
          onto = f.onto;
          rest = f.rest;
          comes = in_right d p t x (sym (fuel_enough N eps cutoff fuel (left leaves d) a d.words lₗ) ∙ q) f.comes;
          there = f.there;
          low = λ n h. f.low n (members_all _ _ 0 leaves h);
          fewer = λ v. omega (arith, f.fewer v, members_count (on_zero d.value) v 0 leaves);
        })
        (λ y r z. not_refused _ k z))

    in_split : bisect (hypergraph_of N leaves) eps ws ≡ d → max cutoff 2 < length leaves → split N eps cutoff (part fuel) leaves a d ≡ Err k
        → Place k leaves a ws
    in_split p m e = go d.words.exhausted (sided leaves d) refl refl e
      where
        go : (s t : Bool) → d.words.exhausted ≡ s → sided leaves d ≡ t
            → cond s (Err DrawsExhausted) (cond t (small_end N eps cutoff leaves a d.words)
            (halves N eps cutoff (part fuel) (left leaves d) (right leaves d) a d.words)) ≡ Err k → Place k leaves a ws
        go true t i j e =
            at_itself k leaves a ws (inr (d, record { many = m; parts = p; words = i }, refused_same {A = Halved} DrawsExhausted k e))
        go false true i j e =
            at_itself k leaves a ws
            (inl (whole d (record { many = m; parts = p; words = i }) (one_side leaves d j), small_refused k leaves a d.words e))
        go false false i j e = in_halves (record { many = m; parts = p; words = i }) (two_sides leaves d j) e

  rec_place : (k : Refusal) (fuel : ℕ) → Rec k fuel
  rec_place k zero leaves a ws b e = at_itself k leaves a ws (inl (few (omega arith), small_refused k leaves a ws e))
  rec_place k (suc fuel) leaves a ws b e =
      by_cases (leb (length leaves) (max cutoff 2))
      (λ q. at_itself k leaves a ws (inl (few (leb-true _ _ q), small_refused k leaves a ws (rw q at e))))
      (λ q. in_split k fuel (rec_place k fuel) leaves a ws (bisect (hypergraph_of N leaves) eps ws) b refl (leb-false _ _ q) (rw q at e))

  -- ---- the other way: the run is refused where it comes to a refusal ----

  -- with fuel enough
  abbrev IsRefused : Refusal → List ℕ → List Pair → Words → Type 0
  IsRefused k leaves a ws = (fuel : ℕ) → length leaves ≤ fuel → bisect_rec N eps cutoff fuel leaves a ws ≡ Err k

  -- one turn, of leaves that are partitioned
  part_turn : (k : Refusal) (leaves : List ℕ) (a : List Pair) (ws : Words) (d : Drawn (List ℕ)) (s : Bool) → Partitioned N eps cutoff leaves ws d s
      → ((fuel : ℕ) → length leaves ≤ suc fuel → split N eps cutoff (part fuel) leaves a d ≡ Err k) → IsRefused k leaves a ws
  part_turn k leaves a ws d s p h zero b = absurd (omega (arith, p.many))
  part_turn k leaves a ws d s p h (suc fuel) b =
      ap (λ t. cond t (small_end N eps cutoff leaves a ws) (split N eps cutoff (part fuel) leaves a (bisect (hypergraph_of N leaves) eps ws)))
      (lt-leb _ _ p.many)
      ∙ ap (λ z. split N eps cutoff (part fuel) leaves a z) p.parts
      ∙ h fuel b

  both_sides : (leaves : List ℕ) (d : Drawn (List ℕ)) → TwoHalves leaves d.value → sided leaves d ≡ false
  both_sides leaves d t =
      rw (ne_eqb (length (left leaves d)) 0 (λ q. omega (arith, t.left)), ne_eqb (length (right leaves d)) 0 (λ q. omega (arith, t.right)))

  side_empty : (leaves : List ℕ) (d : Drawn (List ℕ)) → (left leaves d ≡ []) ⊎ (right leaves d ≡ []) → sided leaves d ≡ true
  side_empty leaves d (inl e) = or_introl _ _ (eq-eqb _ 0 (ap length e))
  side_empty leaves d (inr e) = or_intror (eqb (length (left leaves d)) 0) _ (eq-eqb _ 0 (ap length e))

  -- what a split answers, by its two tests
  split_whole : (fuel : ℕ) (leaves : List ℕ) (a : List Pair) (d : Drawn (List ℕ)) → d.words.exhausted ≡ false → sided leaves d ≡ true
      → split N eps cutoff (part fuel) leaves a d ≡ small_end N eps cutoff leaves a d.words
  split_whole fuel leaves a d i j = rw (i, j)

  split-halves : (fuel : ℕ) (leaves : List ℕ) (a : List Pair) (d : Drawn (List ℕ)) → d.words.exhausted ≡ false → sided leaves d ≡ false
      → split N eps cutoff (part fuel) leaves a d ≡ halves N eps cutoff (part fuel) (left leaves d) (right leaves d) a d.words
  split-halves fuel leaves a d i j = rw (i, j)

  end_refused : (k : Refusal) (leaves : List ℕ) (a : List Pair) (ws : Words) → SmallEnd N eps cutoff leaves ws
      → greedy_from N a (leaves_of leaves) ≡ Err k → IsRefused k leaves a ws
  end_refused k leaves a ws (few b) w zero h = ap (with_words ws) w
  end_refused k leaves a ws (few b) w (suc fuel) h = rw (le-leb _ _ b) (ap (with_words ws) w)
  end_refused k leaves a ws (whole d p o) w fuel h =
      part_turn k leaves a ws d false p (λ f b. split_whole f leaves a d p.words (side_empty leaves d o) ∙ ap (with_words d.words) w) fuel h

  exhausted_refused : (leaves : List ℕ) (a : List Pair) (ws : Words) (d : Drawn (List ℕ)) → Partitioned N eps cutoff leaves ws d true
      → IsRefused DrawsExhausted leaves a ws
  exhausted_refused leaves a ws d p fuel h = part_turn DrawsExhausted leaves a ws d true p (λ f b. rw p.words) fuel h

  comes_refused : (k : Refusal) (leaves : List ℕ) (a : List Pair) (ws : Words) (end : List ℕ) (onto : List Pair) (rest : Words)
      → Comes N eps cutoff leaves a ws end onto rest → IsRefused k end onto rest → IsRefused k leaves a ws
  comes_refused k leaves a ws end onto rest itself w fuel h = w fuel h
  comes_refused k leaves a ws end onto rest (in_left d p t m) w fuel h =
      part_turn k leaves a ws d false p (λ f b.
      split-halves f leaves a d p.words (both_sides leaves d t)
      ∙ ap (λ z. and_then z (λ x. and_then (part f (right leaves d) x.built.pairs x.words) (λ y. Ok (join_halves N eps cutoff x y))))
      (comes_refused k (left leaves d) a d.words end onto rest m w f (omega (arith, halves_length d.value leaves, t.right)))) fuel h
  comes_refused k leaves a ws end onto rest (in_right d p t x e m) w fuel h =
      part_turn k leaves a ws d false p (λ f b.
      split-halves f leaves a d p.words (both_sides leaves d t)
      ∙ ap (λ z. and_then z (λ x. and_then (part f (right leaves d) x.built.pairs x.words) (λ y. Ok (join_halves N eps cutoff x y))))
      (fuel_enough N eps cutoff f (left leaves d) a d.words (omega (arith, halves_length d.value leaves, t.right)) ∙ e)
      ∙ ap (λ z. and_then z (λ y. Ok (join_halves N eps cutoff x y)))
      (comes_refused k (right leaves d) x.built.pairs x.words end onto rest m w f (omega (arith, halves_length d.value leaves, t.left)))) fuel h

-- ---- over all leaves ----

from_below : (n k m : ℕ) → k + m ≤ n → All (λ v. v < n) (from k m)
from_below n k zero h = tt
from_below n k (suc m) h = (omega arith, from_below n (suc k) m (omega arith))

-- without a leaf there is nothing to refuse
some_leaf : (N : Network) (a : List Pair) (l : List ℕ) (k : Refusal) → greedy_from N a (leaves_of l) ≡ Err k → 1 ≤ length l
unfolding greedy_from
some_leaf N a [] k e = not_refused _ k e
some_leaf N a (i ∷ l) k e = omega arith

wide_not_exhausted : {P : Type 0} → DrawsExhausted ≡ TableTooWide → P
wide_not_exhausted e = absurd (let w : ◌≡◌ {A = ℕ} 13 12 = ap number_of e in omega arith)

module _ (N : Network) (i cutoff : ℕ) (words : List ℕ) where
  abbrev At : Refusal → Type 0
  At k = Place N (imbalance i) cutoff k (range (leaf_count N)) [] (lent_words words)

  enough : length (range (leaf_count N)) ≤ leaf_count N
  enough = omega (arith, range_length 0 (leaf_count N))

  -- where bisection is refused, and that it is refused there
  from_refused : (k : Refusal) → bisection N i cutoff words ≡ Err k → At k
  unfolding bisection
  from_refused k e =
      then_refused (bisect_rec N (imbalance i) cutoff (leaf_count N) (range (leaf_count N)) [] (lent_words words)) _ k e
      (rec_place N (imbalance i) cutoff k (leaf_count N) (range (leaf_count N)) [] (lent_words words) enough)
      (λ h p q. not_refused _ k q)

  to_refused : (k : Refusal) (end : List ℕ) (onto : List Pair) (rest : Words)
      → Comes N (imbalance i) cutoff (range (leaf_count N)) [] (lent_words words) end onto rest → IsRefused N (imbalance i) cutoff k end onto rest
      → bisection N i cutoff words ≡ Err k
  unfolding bisection
  to_refused k end onto rest m w =
      ap (λ z. and_then z (λ h. Ok (bisected_from words h)))
      (comes_refused N (imbalance i) cutoff k (range (leaf_count N)) [] (lent_words words) end onto rest m w (leaf_count N) enough)

  met : (k : Refusal) (f : At k) → 1 ≤ length f.end → Met N i cutoff words f.end f.onto f.rest
  met k f s =
      record {
        comes = f.comes;
        some = s;
        leaves = f.low (leaf_count N) (from_below (leaf_count N) 0 (leaf_count N) (omega arith));
        once = λ v. omega (arith, f.fewer v, leaves_single (leaf_count N) v);
      }

  wide_end : At TableTooWide → WideEnd N i cutoff words
  wide_end f = go f.there
    where
      go : Refused N (imbalance i) cutoff TableTooWide f.end f.onto f.rest → WideEnd N i cutoff words
      go (inl (s, w)) =
          record {
            end = f.end;
            onto = f.onto;
            rest = f.rest;
            met = met TableTooWide f (some_leaf N f.onto f.end TableTooWide w);
            small = s;
            wide = w;
          }
      go (inr (d, p, e)) = wide_not_exhausted e

  exhausted_part : At DrawsExhausted → ExhaustedPart N i cutoff words
  exhausted_part f = go f.there
    where
      go : Refused N (imbalance i) cutoff DrawsExhausted f.end f.onto f.rest → ExhaustedPart N i cutoff words
      go (inl (s, w)) = wide_not_exhausted ((refuses_from N f.onto (leaves_of f.end)).only DrawsExhausted w)
      go (inr (d, p, e)) =
          record {
            part = f.end;
            onto = f.onto;
            rest = f.rest;
            met = met DrawsExhausted f (omega (arith, p.many));
            d = d;
            exhausted = p;
          }

-- LAW B8
pub wide_by_greedy : WideByGreedy
wide_by_greedy N i cutoff words =
    record {
      because = λ e. wide_end N i cutoff words (from_refused N i cutoff words TableTooWide e);
      whenever = λ end onto rest m s w. to_refused N i cutoff words TableTooWide end onto rest m
          (end_refused N (imbalance i) cutoff TableTooWide end onto rest s w);
    }

-- LAW B9
pub exhausted_by_draws : ExhaustedByDraws
exhausted_by_draws N i cutoff words =
    record {
      because = λ e. exhausted_part N i cutoff words (from_refused N i cutoff words DrawsExhausted e);
      whenever = λ part onto rest d m p. to_refused N i cutoff words DrawsExhausted part onto rest m
          (exhausted_refused N (imbalance i) cutoff part onto rest d p);
    }

-- Greedy over all leaves of a network, from greedy over a list of leaves. Assumes nothing.
use Rattle.std.specs.Prelude.{◌≡◌, refl, ℕ, ◌-◌, ◌*◌, ◌≤◌, ◌<◌, length, take, Result, Err, Ok}
use Rattle.std.proofs.Common.{sym, ◌∙◌, ap, subst, arith, get_or-take}
use Rattle.std.proofs.Math.Decide.{dec_le}
use Rattle.std.proofs.Math.ListN.{length-take, get_or-eq_default}
use mathlib.Core.List.{List, [], ◌∷◌}
use Rattle.spec.specs.declared.Refusal.{Refusal}
use Rattle.spec.specs.declared.Refusal.TheVariants.{TableTooWide}
use Rattle.spec.specs.Lists.{memb, count, range}
use Rattle.spec.specs.Memory.{over}
use Rattle.spec.specs.Layout.{network_of}
use Rattle.spec.specs.Network.{Network, leaf_count}
use Rattle.spec.specs.Tree.{Pair, flat_of}
use Rattle.spec.specs.Greedy.{array_of, leaves_of, greedy_from, greedy}
use Rattle.laws.specs.ListLaws.{from_memb, range_length}
use Rattle.laws.specs.GreedyForest.{leaves_single}
use Rattle.network.specs.Codes.{Facts}
use Rattle.network.specs.Layouts.{layout_leaf_count}
use Rattle.cells.specs.Cells.{over-nil}
use Rattle.slots.specs.Weigh.{Light}
use Rattle.greedynodes.specs.Begin.{Fits, Asks}
use Rattle.greedynodes.specs.Counted.{asks_front}
use Rattle.greedynodes.specs.Copied.{copied_to, copied_over}
use Rattle.greedynodes.specs.Networks.{AsksOf}
use Rattle.greedynodes.specs.Ends.{Planned, is_too_wide, is_planned, apart}

-- what greedy over all leaves answers, with what then stands in the list
pub data Grown (N : Network) (tree₀ tree : List ℕ) (r : Result (Unit {0}) Refusal) : Type 0 where
  is_left : r ≡ Err TableTooWide → greedy N ≡ Err TableTooWide → tree ≡ tree₀ → Grown N tree₀ tree r
  is_grown : r ≡ Ok tt → (a : List Pair) → greedy N ≡ Ok a → tree ≡ over tree₀ (flat_of a) → length a ≡ leaf_count N - 1 → Grown N tree₀ tree r

module _ (N : Network) (leaves : List ℕ) (all_leaves : leaves ≡ range (leaf_count N)) where
  pub asks_all : (kids : List ℕ) → AsksOf N [] 0 leaves kids
  unfolding flat_of
  asks_all kids =
      record {
        leaf = λ v e. omega (arith, from_memb v 0 (leaf_count N) (ap (memb v) (sym all_leaves) ∙ e));
        once = λ v. subst (λ (l : List ℕ). count v l ≤ 1) (sym all_leaves) (leaves_single (leaf_count N) v);
        array = refl;
        written = sym (over-nil kids);
      }

  greedy_is : greedy N ≡ array_of (greedy_from N [] (leaves_of leaves))
  unfolding greedy
  greedy_is = ap (λ (l : List ℕ). array_of (greedy_from N [] (leaves_of l))) (sym all_leaves)

  module _ (tree₀ tree : List ℕ) (r : Result ℕ Refusal) (planned : Planned N [] leaves tree₀ tree r) where
    pub grown_left : (e : Refusal) → r ≡ Err e → tree ≡ tree₀ → Grown N tree₀ tree (Err e)
    grown_left e z same = go planned
      where
        go : Planned N [] leaves tree₀ tree r → Grown N tree₀ tree (Err e)
        go (is_too_wide q g) = is_left (refusal_same (sym z ∙ q)) (greedy_is ∙ ap array_of g) same
          where
            refusal_of : Result ℕ Refusal → Refusal
            refusal_of (Err x) = x
            refusal_of (Ok t) = TableTooWide

            refusal_same : ◌≡◌ {A = Result ℕ Refusal} (Err e) (Err TableTooWide) → ◌≡◌ {A = Result (Unit {0}) Refusal} (Err e) (Err TableTooWide)
            refusal_same h = ap (λ (x : Refusal). Err x) (ap refusal_of h)
        go (is_planned top q l b g w k t) = absurd (apart (sym q ∙ z))

    pub grown_whole : (u : ℕ) → r ≡ Ok u → Grown N tree₀ tree (Ok tt)
    grown_whole u z = go planned
      where
        go : Planned N [] leaves tree₀ tree r → Grown N tree₀ tree (Ok tt)
        go (is_too_wide q g) = absurd (apart (sym z ∙ q))
        go (is_planned top q l b g w k t) = is_grown refl b.pairs (greedy_is ∙ ap array_of g) w (omega (arith, k, ap length all_leaves, range_length 0 (leaf_count N)))

-- ---- greedy's answer over all leaves, whatever stands in the list where it is refused ----

-- what greedy over all leaves answers: a refusal, or a tree's number, which is within 16 bits; then the children of the array stand at the front
-- of `kids`
pub data Whole (N : Network) (kids₀ kids : List ℕ) (r : Result ℕ Refusal) : Type 0 where
  is_refused : r ≡ Err TableTooWide → greedy N ≡ Err TableTooWide → Whole N kids₀ kids r
  is_plan : (top : ℕ) → r ≡ Ok top → top < 65536 → (a : List Pair) → greedy N ≡ Ok a → kids ≡ over kids₀ (flat_of a) → length a ≡ leaf_count N - 1
      → Whole N kids₀ kids r

flat_length : (a : List Pair) → length (flat_of a) ≡ length a * 2
unfolding flat_of
flat_length [] = refl
flat_length (p ∷ a) = omega (arith, flat_length a)

-- a list that holds what it held
pub whole_entry : {N : Network} {w₀ w₁ w : List ℕ} {r : Result ℕ Refusal} → w₁ ≡ w₀ → Whole N w₁ w r → Whole N w₀ w r
whole_entry {N} {w₀} {w₁} {w} {r} e g = subst (λ (x : List ℕ). Whole N x w r) e g

module _ (N : Network) (w₀ w : List ℕ) (r : Result ℕ Refusal) (whole : Whole N w₀ w r) where
  -- where it is refused, so it is over every list that stays as it was
  pub whole_left : (e : Refusal) → r ≡ Err e → (tree : List ℕ) → Grown N tree tree (Err e)
  whole_left e z tree = go whole
    where
      refusal_of : Result ℕ Refusal → Refusal
      refusal_of (Err x) = x
      refusal_of (Ok t) = TableTooWide

      go : Whole N w₀ w r → Grown N tree tree (Err e)
      go (is_refused q g) = let h : e ≡ TableTooWide = ap refusal_of (sym z ∙ q) in is_left (ap (λ (x : Refusal). Err x) h) g refl
      go (is_plan top q l a g v k) = absurd (apart (sym q ∙ z))

  -- where it is planned, the list is grown, and the number is within 16 bits
  pub whole_grown : (u : ℕ) → r ≡ Ok u → Grown N w₀ w (Ok tt) × (u < 65536)
  whole_grown u z = go whole
    where
      number_of : Result ℕ Refusal → ℕ
      number_of (Err e) = 0
      number_of (Ok t) = t

      go : Whole N w₀ w r → Grown N w₀ w (Ok tt) × (u < 65536)
      go (is_refused q g) = absurd (apart (sym z ∙ q))
      go (is_plan top q l a g v k) = (is_grown refl a g v k, (let h : u ≡ top = ap number_of (sym z ∙ q) in omega (arith, l, h)))

  -- and so is a list to whose front the children are copied
  pub whole_copied : (u : ℕ) → r ≡ Ok u → (n : ℕ) → n ≡ (leaf_count N - 1) * 2 → n ≤ length w₀ → (tree tree' : List ℕ) → tree' ≡ copied_to tree 0 w n
      → Grown N tree tree' (Ok tt)
  whole_copied u z n en b tree tree' et = go whole
    where
      go : Whole N w₀ w r → Grown N tree tree' (Ok tt)
      go (is_refused q g) = absurd (apart (sym z ∙ q))
      go (is_plan top q l a g v k) =
          is_grown refl a g (et ∙ copied_over tree [] w₀ w (flat_of a) n (sym (over-nil tree)) v (omega (arith, flat_length a, k, en)) b) k

-- ---- lists of which the first places are in use, for an accepted network ----

module _ (m n o : ℕ) (weights counts cells outputs : List ℕ) (facts : Facts m n o weights counts cells outputs) where
  -- no weight is too great: what stands past the front reads as 0
  pub whole_light : Light (take m weights)
  whole_light j =
      elim (dec_le m j) [
        | yes q ↦ omega (arith, get_or-eq_default (take m weights) 0 (let z : length (take m weights) ≤ j = omega (arith, length-take m weights) in z))
        | no q ↦ omega (arith, get_or-take m weights j 0 (omega arith), facts.weights_fit j (omega arith))
      ]

  -- all leaves, before any node: the lengths fit, for sets of four words
  pub whole_fits : (leaves : List ℕ) → leaves ≡ range n → (ws : List ℕ) → 1036 ≤ length ws → Fits 4 n 0 (take m weights) (take o outputs) leaves ws
  whole_fits leaves all_leaves ws h =
      record {
        indices = omega (arith, length-take m weights, facts.few_indices);
        leaf_sets = omega (arith, facts.few_leaves);
        few = omega (arith, ap length all_leaves, range_length 0 n, facts.few_leaves);
        outputs_fit = omega (arith, length-take o outputs, facts.few_outputs);
        words = omega (arith, h);
        array = omega arith;
      }

  module _ (hm : m ≤ length weights) (ho : o ≤ length outputs) (leaves : List ℕ) (all_leaves : leaves ≡ range n) where
    abbrev N : Network
    N = network_of m n o weights counts cells outputs

    counted_all : leaves ≡ range (leaf_count N)
    counted_all = all_leaves ∙ ap range (sym (layout_leaf_count m n o weights counts cells outputs))

    -- all leaves, from greedy over a list of leaves at the front of the lists
    pub whole_answer : (kids₀ kids : List ℕ) (r : Result ℕ Refusal)
        → (Asks N [] n 0 (take m weights) counts cells (take o outputs) leaves kids₀ → Planned N [] leaves kids₀ kids r)
        → Whole N kids₀ kids r
    whole_answer kids₀ kids r f = go (f (asks_front m n o weights counts cells outputs hm ho facts.accepted leaves all_leaves kids₀))
      where
        go : Planned N [] leaves kids₀ kids r → Whole N kids₀ kids r
        go (is_too_wide q g) = is_refused q (greedy_is N leaves counted_all ∙ ap array_of g)
        go (is_planned top q l b g w k t) =
            is_plan top q l b.pairs (greedy_is N leaves counted_all ∙ ap array_of g) w
            (omega (arith, k, ap length counted_all, range_length 0 (leaf_count N)))

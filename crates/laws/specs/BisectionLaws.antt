-- LAW B1: bisection's answer is a valid array. Each half makes one tree, over an array that grows at its end. Assumes nothing.
use Rattle.std.specs.Prelude.{◌≡◌, refl, Bool, true, false, ◌||◌, cond, List, [], ◌∷◌, ◌++◌, ℕ, zero, suc, ◌+◌, ◌-◌, ◌≤◌, ◌<◌, max, eqb, ltb, leb, Float, length, Err, Ok}
use Rattle.std.proofs.Common.{sym, ap, ◌∙◌, subst, arith, lt_of_not-le, length-append, eqb-true, eq-eqb, lt-ltb, ltb-true, ltb-false}
use Rattle.std.proofs.lemmas.List.{length-map}
use Rattle.std.proofs.lemmas.Bool.{eqb-false}
use Rattle.spec.specs.Lists.{count, range, from, sum_of}
use Rattle.spec.specs.Members.{All}
use Rattle.spec.specs.Network.{Network, leaf_count}
use Rattle.spec.specs.Tree.{Tree, leaf, numbers, Pair, Describes, valid, ValidTree}
use Rattle.spec.specs.declared.Refusal.TheVariants.{DrawsExhausted}
use Rattle.spec.specs.Draws.{Words, Drawn, lent_words}
use Rattle.spec.specs.Greedy.{joined, Built, join_all, leaves_of, start_of, greedy_from}
use Rattle.spec.specs.Hypergraph.{hypergraph_of}
use Rattle.spec.specs.Bisection.{imbalance, Halved, left_half, right_half, small_end, join_halves, halves, split, bisect, bisect_rec, bisected_from, Bisected, bisection}
use Rattle.spec.specs.BisectionClaims.{BisectionValid}
use Rattle.laws.specs.Booleans.{by_cases, or_none}
use Rattle.laws.specs.ListLaws.{count_memb, count-append, sum_length, range_length}
use Rattle.laws.specs.Counts.{count_in, count_out, sum_same}
use Rattle.laws.specs.Results.{not_done, done_same, and_then_lem}
use Rattle.laws.specs.Walks.{tree_valid, inners, length-inners}
use Rattle.laws.specs.GreedyForest.{takes_head, Topped, fresh, fresh_none, Forest, describes_more, join_forest, leaves_count, leaves_flat, leaf_topped, forest_valid}
use Rattle.laws.specs.GreedyLaws.{greedy_builds}
use Rattle.laws.specs.BisectionHalves.{members_all, members_count, halves_length, on_zero}
use Rattle.laws.specs.GreedyLists.{Extends, extends_trans, finish_extends}

-- ---- greedy only adds nodes ----

grows_length : (a b : List Pair) → Extends a b → length a ≤ length b
grows_length a b (m, p) = omega (arith, ap length p, length-append a m)

greedy_grows : (N : Network) (a : List Pair) (ts : List Tree) (b : Built) → greedy_from N a ts ≡ Ok b → Extends a b.pairs
unfolding greedy_from
greedy_grows N a ts b e = finish_extends N (length ts) (length ts) (start_of a ts) b e

-- ---- the forest of some leaves, over any array ----

abbrev Below : ℕ → List ℕ → Type 0
Below n l = All (λ i. i < n) l

below_count : (n v : ℕ) (l : List ℕ) → Below n l → n ≤ v → count v l ≡ 0
below_count n v [] h k = refl
below_count n v (i ∷ l) h k = by_cases (eqb v i) (λ e. absurd (omega (arith, eqb-true v i e, h.0))) (λ e. rw e (below_count n v l h.1 k))

leaves_each : (n : ℕ) (a : List Pair) (l : List ℕ) → Below n l → All (λ t. Describes n a t × Topped t) (leaves_of l)
leaves_each n a [] h = tt
leaves_each n a (i ∷ l) h = ((h.0, leaf_topped i), leaves_each n a l h.1)

part_forest : (n : ℕ) (a : List Pair) (l : List ℕ) → Below n l → Forest n (λ v. count v l) (n + length a) (length a + length l) a (leaves_of l)
part_forest n a l h =
    record {
      free = λ v k. below_count n v l h (omega arith);
      amount = ap (λ (k : ℕ). length a + k) (length-map l (λ i. leaf i));
      each = leaves_each n a l h;
      high = omega arith;
      counts = λ v. omega (arith, leaves_count v l, no_fresh (n + length a) v);
      deep = omega (arith, leaves_flat l);
    }
  where
    no_fresh : (lo v : ℕ) → fresh lo lo v ≡ 0
    no_fresh lo v = by_cases (ltb v lo) (λ e. rw e) (λ e. rw e)

-- ---- what one half makes ----

record Half (N : Network) (leaves : List ℕ) (a : List Pair) (h : Halved) : Type 0 where
  top : Tree
  tops : h.built.tops ≡ top ∷ []
  forest : Forest (leaf_count N) (λ v. count v leaves) (leaf_count N + length a) (length a + length leaves) h.built.pairs (top ∷ [])
  grows : Extends a h.built.pairs

fresh-add : (lo mid hi v : ℕ) → lo ≤ mid → mid ≤ hi → fresh lo mid v + fresh mid hi v ≡ fresh lo hi v
fresh-add lo mid hi v p q =
    by_cases (ltb v lo)
    (λ e. rw (e, lt-ltb v mid (omega (arith, ltb-true v lo e))))
    (λ e. rw e
    (by_cases (ltb v mid)
    (λ f. rw (f, lt-ltb v hi (omega (arith, ltb-true v mid f))))
    (λ f. rw f (omega arith))))

from_fresh : (lo k v : ℕ) → count v (from lo k) ≡ fresh lo (lo + k) v
from_fresh lo k v =
    by_cases (ltb v lo)
    (λ e. rw e (count_out v lo k (λ x y. omega (arith, ltb-true v lo e))))
    (λ e. rw e
    (by_cases (ltb v (lo + k))
    (λ f. rw f (count_in v lo k (ltb-false v lo e) (ltb-true v (lo + k) f)))
    (λ f. rw f (count_out v lo k (λ x y. omega (arith, ltb-false v (lo + k) f))))))

-- a tree over so many leaves has one inner node less
half_inners : (n : ℕ) (l : List ℕ) (a b : List Pair) (u : Tree) → Below n l → Forest n (λ v. count v l) (n + length a) (length a + length l) b (u ∷ [])
    → suc (inners u) ≡ length l
half_inners n l a b u h s =
    let lo = n + length a in
    let k = length b - length a in
    let e : lo + k ≡ n + length b = omega (arith, s.high) in
    let same : sum_of (λ v. 1) (numbers u) ≡ sum_of (λ v. 1) (l ++ from lo k) =
    sum_same (n + length b) (λ v. 1) (numbers u) (l ++ from lo k)
    (λ v m. lt_of_not-le (λ q. omega (arith, count_memb v (numbers u) m, s.counts v, s.free v (omega (arith, s.high)), fresh_none lo (n + length b) v q)))
    (λ v m. lt_of_not-le (λ q. omega (arith, count_memb v (l ++ from lo k) m, count-append v l (from lo k), below_count n v l h (omega arith), count_out v lo k (λ x y. omega arith))))
    (λ v. omega (arith, s.counts v, count-append v l (from lo k), from_fresh lo k v ∙ ap (λ x. fresh lo x v) e)) in
    omega (arith, same, sum_length (numbers u), sum_length (l ++ from lo k), length-append l (from lo k), range_length lo k, length-inners u, s.amount, s.high)

module _ (N : Network) (eps : Float) (cutoff : ℕ) where
  small_half : (leaves : List ℕ) (a : List Pair) (ws : Words) (h : Halved) → Below (leaf_count N) leaves → 1 ≤ length leaves
      → small_end N eps cutoff leaves a ws ≡ Ok h → Half N leaves a h
  small_half leaves a ws h low some e =
      and_then_lem (greedy_from N a (leaves_of leaves)) (λ b. Ok (record { built = b; words = ws })) h e λ b p q.
      let (u, w, s) = greedy_builds N (λ v. count v leaves) (leaf_count N + length a) (length a + length leaves) a (leaves_of leaves) b p
      (part_forest (leaf_count N) a leaves low) (omega (arith, length-map leaves (λ i. leaf i))) in
      subst (Half N leaves a) (done_same _ h q)
      (record { top = u; tops = w; forest = s; grows = greedy_grows N a (leaves_of leaves) b p })

  -- two halves' trees are joined
  two_halves : (leaves left right : List ℕ) (a : List Pair) (x y : Halved) → Below (leaf_count N) leaves → Below (leaf_count N) left → Below (leaf_count N) right
      → length left + length right ≡ length leaves → ((v : ℕ) → count v left + count v right ≡ count v leaves)
      → Half N left a x → Half N right x.built.pairs y → Half N leaves a (join_halves N eps cutoff x y)
  two_halves leaves left right a x y low lowₗ lowᵣ len cnt f g = made x.built.tops y.built.tops f.tops g.tops
    where
      both : Forest (leaf_count N) (λ v. count v leaves) (leaf_count N + length a) (length a + length leaves) y.built.pairs (f.top ∷ g.top ∷ [])
      both =
          let m = g.grows in
          let la : length a ≤ length x.built.pairs = grows_length a x.built.pairs f.grows in
          let lb : length x.built.pairs ≤ length y.built.pairs = grows_length x.built.pairs y.built.pairs g.grows in
          record {
            free = λ v k. below_count (leaf_count N) v leaves low (omega arith);
            amount = omega (arith, f.forest.amount, g.forest.amount);
            each = (
              (subst (λ z. Describes (leaf_count N) z f.top) (sym m.1) (describes_more (leaf_count N) x.built.pairs m.0 f.top f.forest.each.0.0), f.forest.each.0.1),
              (g.forest.each.0, tt),
            );
            high = omega arith;
            counts = λ v. omega (
              arith,
              f.forest.counts v,
              g.forest.counts v,
              cnt v,
              fresh-add (leaf_count N + length a) (leaf_count N + length x.built.pairs) (leaf_count N + length y.built.pairs) v (omega arith) (omega arith),
            );
            deep = omega (
              arith,
              half_inners (leaf_count N) left a x.built.pairs f.top lowₗ f.forest,
              half_inners (leaf_count N) right x.built.pairs y.built.pairs g.top lowᵣ g.forest,
              f.forest.amount,
              g.forest.amount,
            );
          }

      made : (xs ys : List Tree) → xs ≡ f.top ∷ [] → ys ≡ g.top ∷ []
          → Half N leaves a (record { built = join_all N y.built.pairs (xs ++ ys); words = y.words })
      made xs ys p q =
          let t = joined N y.built.pairs f.top g.top in
          let e : xs ++ ys ≡ f.top ∷ g.top ∷ [] = ap (λ z. z ++ ys) p ∙ ap (λ z. f.top ∷ z) q in
          subst (λ z. Half N leaves a (record { built = join_all N y.built.pairs z; words = y.words })) (sym e)
          (record {
            top = t;
            tops = refl;
            forest = join_forest N y.built.pairs (f.top ∷ g.top ∷ []) (g.top ∷ []) [] (t ∷ []) f.top g.top both
                (takes_head f.top (g.top ∷ [])) (takes_head g.top []) (takes_head t []);
            grows = extends_trans a x.built.pairs _ f.grows (extends_trans x.built.pairs y.built.pairs _ g.grows (_, refl));
          })

  abbrev Rec : ℕ → Type 0
  Rec fuel = (leaves : List ℕ) (a : List Pair) (ws : Words) (h : Halved) → Below (leaf_count N) leaves → 1 ≤ length leaves
      → bisect_rec N eps cutoff fuel leaves a ws ≡ Ok h → Half N leaves a h

  -- what an answer of a split comes from, by the tests in it
  split_half : (fuel : ℕ) → Rec fuel → (leaves : List ℕ) (a : List Pair) (d : Drawn (List ℕ)) (h : Halved) → Below (leaf_count N) leaves → 1 ≤ length leaves
      → split N eps cutoff (λ l b w. bisect_rec N eps cutoff fuel l b w) leaves a d ≡ Ok h → Half N leaves a h
  split_half fuel rec leaves a d h low some e = go d.words.exhausted (eqb (length left) 0 || eqb (length right) 0) refl e
    where
      left : List ℕ
      left = left_half d.value leaves

      right : List ℕ
      right = right_half d.value leaves

      go : (s t : Bool) → (eqb (length (left_half d.value leaves)) 0 || eqb (length (right_half d.value leaves)) 0) ≡ t
          → cond s (Err DrawsExhausted) (cond t (small_end N eps cutoff leaves a d.words)
          (halves N eps cutoff (λ l b w. bisect_rec N eps cutoff fuel l b w) (left_half d.value leaves) (right_half d.value leaves) a d.words)) ≡ Ok h
          → Half N leaves a h
      go true t q e = not_done DrawsExhausted h e
      go false true q e = small_half leaves a d.words h low some e
      go false false q e =
          let (l, r) = or_none _ _ q in
          let z : length (left_half d.value leaves) ≡ 0 → ⊥ = eqb-false _ 0 l in
          let w : length (right_half d.value leaves) ≡ 0 → ⊥ = eqb-false _ 0 r in
          let lowₗ : Below (leaf_count N) (left_half d.value leaves) = members_all _ _ 0 leaves low in
          let lowᵣ : Below (leaf_count N) (right_half d.value leaves) = members_all _ _ 0 leaves low in
          and_then_lem (bisect_rec N eps cutoff fuel (left_half d.value leaves) a d.words) _ h e λ x p k.
          and_then_lem (bisect_rec N eps cutoff fuel (right_half d.value leaves) x.built.pairs x.words) _ h k λ y m j.
          subst (Half N leaves a) (done_same _ h j)
          (two_halves leaves (left_half d.value leaves) (right_half d.value leaves) a x y low lowₗ lowᵣ
          (halves_length d.value leaves) (λ v. members_count (on_zero d.value) v 0 leaves)
          (rec (left_half d.value leaves) a d.words x lowₗ (omega (arith, z)) p)
          (rec (right_half d.value leaves) x.built.pairs x.words y lowᵣ (omega (arith, w)) m))

  rec_half : (fuel : ℕ) → Rec fuel
  rec_half zero leaves a ws h low some e = small_half leaves a ws h low some e
  rec_half (suc fuel) leaves a ws h low some e =
      by_cases (leb (length leaves) (max cutoff 2))
      (λ q. small_half leaves a ws h low some (rw q at e))
      (λ q. split_half fuel (rec_half fuel) leaves a (bisect (hypergraph_of N leaves) eps ws) h low some (rw q at e))

-- ---- over all leaves ----

range_below : (n k m : ℕ) → k + m ≤ n → Below n (from k m)
range_below n k zero h = tt
range_below n k (suc m) h = (omega arith, range_below n (suc k) m (omega arith))

bisection_tree : (N : Network) (eps : Float) (cutoff : ℕ) (ws : Words) (h : Halved) → 1 ≤ leaf_count N
    → bisect_rec N eps cutoff (leaf_count N) (range (leaf_count N)) [] ws ≡ Ok h → (u : Tree) × ValidTree (leaf_count N) h.built.pairs u
bisection_tree N eps cutoff ws h some e =
    let n = leaf_count N in
    let r = range_length 0 n in
    let f : Half N (range n) [] h = rec_half N eps cutoff n (range n) [] ws h (range_below n 0 n (omega arith)) (omega (arith, r)) e in
    let p : n + 0 ≡ n = omega arith in
    let q : 0 + length (range n) ≡ n = omega (arith, r) in (
      f.top,
      forest_valid n h.built.pairs f.top
          (subst (λ all. Forest n (λ v. count v (range n)) n all h.built.pairs (f.top ∷ [])) q
          (subst (λ lo. Forest n (λ v. count v (range n)) lo (0 + length (range n)) h.built.pairs (f.top ∷ [])) p f.forest)),
    )

-- without leaves nothing is built
none_built : (N : Network) (eps : Float) (cutoff n : ℕ) (ws : Words) (h : Halved) → n ≡ 0 → bisect_rec N eps cutoff n (range n) [] ws ≡ Ok h → h.built.pairs ≡ []
unfolding greedy_from
none_built N eps cutoff zero ws h z e = sym (ap (λ (x : Halved). x.built.pairs) (done_same (record { built = record { pairs = []; tops = [] }; words = ws }) h e))
none_built N eps cutoff (suc n) ws h z e = absurd (omega arith)

-- LAW B1. Whatever the network contains, and whatever the words: if bisection answers, its array is valid.
pub bisection_valid : BisectionValid
unfolding bisection valid
bisection_valid N i cutoff words b e =
    and_then_lem (bisect_rec N (imbalance i) cutoff (leaf_count N) (range (leaf_count N)) [] (lent_words words)) (λ h. Ok (bisected_from words h)) b e λ h p q.
    let same : h.built.pairs ≡ b.pairs = ap (λ (z : Bisected). z.pairs) (done_same _ b q) in
    subst (λ (z : List Pair). valid (leaf_count N) z ≡ true) same
    (by_cases (eqb (leaf_count N) 0)
    (λ z. let k : leaf_count N ≡ 0 = eqb-true (leaf_count N) 0 z in
    rw k (eq-eqb (length h.built.pairs) 0 (ap length (none_built N (imbalance i) cutoff (leaf_count N) (lent_words words) h k p))))
    (λ z. let k : leaf_count N ≡ 0 → ⊥ = eqb-false (leaf_count N) 0 z in
    let (u, d) = bisection_tree N (imbalance i) cutoff (lent_words words) h (omega (arith, k)) p in
    tree_valid (leaf_count N) h.built.pairs u d))

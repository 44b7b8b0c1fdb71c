-- Lent lists that stand for a network; the size of a leaf's table by its set. Assumes nothing.
use Rattle.std.specs.Prelude.{Bool, true, false, not, ◌&&◌, ◌||◌, cond, ◌≡◌, refl, List, [], ◌∷◌, ℕ, zero, suc, ◌+◌, ◌*◌, ◌≤◌, ◌<◌, eqb, ltb, length, get_or, take}
use Rattle.std.proofs.Math.Bool.{or-false, or_assoc, or_self}
use Rattle.std.proofs.Common.{sym, ◌∙◌, ap, ap₂, arith, lt-ltb, ltb-true, ltb-false, eqb-true}
use Rattle.spec.specs.Lists.{memb, count, keep, from, range, anyb, sum_of}
use Rattle.spec.specs.Layout.{network_of}
use Rattle.spec.specs.Network.{Network, leaf_count, index_count, weight, legs, named}
use Rattle.spec.specs.NetworkClaims.{Accepted}
use Rattle.spec.specs.Tree.{leaf, below}
use Rattle.spec.specs.Price.{lists, bits}
use Rattle.spec.specs.Greedy.{size_of, leaves_of}
use Rattle.laws.specs.Booleans.{by_cases, and_right, eqb_sym}
use Rattle.laws.specs.ListLaws.{memb-keep, any_ext, from_memb, count_memb, count_not_memb}
use Rattle.laws.specs.Counts.{count_in, count_out, sum_same}
use Rattle.network.specs.Layouts.{firsts-take, firsts_all, layout_leaf_count, layout_weights, layout_outputs, layout_legs}
use Rattle.slots.specs.Slots.{held}
use Rattle.slots.specs.Writes.{among, memb-firsts, leaf_has}
use Rattle.slots.specs.Weigh.{weighed, either}
use Rattle.merging.specs.Tables.{weighed-bits}
use Rattle.start.specs.Leaves.{others}

-- the lists stand for a network of n leaves
pub record Lends (N : Network) (n : ℕ) (weights counts legs outputs : List ℕ) : Type 0 where
  pub leaves : n ≡ leaf_count N
  pub weighed : weights ≡ N.weights
  pub legs_are : (i j : ℕ) → i < n → leaf_has counts legs i j ≡ memb j (Rattle.spec.specs.Network.legs N i)
  pub outputs_are : (j : ℕ) → among outputs 0 (length outputs) j ≡ memb j N.outputs

-- those of a record do
pub lends_layout : (m n o : ℕ) (weights counts cells outputs : List ℕ) → m ≤ length weights → o ≤ length outputs
    → Lends (network_of m n o weights counts cells outputs) n (take m weights) counts cells (take o outputs)
lends_layout m n o weights counts cells outputs hm ho =
    record {
      leaves = sym (layout_leaf_count m n o weights counts cells outputs);
      weighed = sym (layout_weights m n o weights counts cells outputs ∙ firsts-take m weights hm);
      legs_are = λ i j h. sym (memb-firsts cells (i * 32) (get_or counts i 0) j) ∙ ap (memb j) (sym (layout_legs m n o weights counts cells outputs i h));
      outputs_are = λ j. sym (memb-firsts (take o outputs) 0 (length (take o outputs)) j)
          ∙ ap (memb j) (firsts_all (take o outputs) ∙ sym (layout_outputs m n o weights counts cells outputs ∙ firsts-take o outputs ho));
    }

-- ---- the size of a leaf's table ----

count-keep : (p : ℕ → Bool) (m v : ℕ) → count v (keep p (range m)) ≡ cond (p v && ltb v m) 1 0
count-keep p m v = go (range m) ∙ ap (λ (k : ℕ). cond (p v) k 0) (in_range v m) ∙ both (p v) (ltb v m)
  where
    go : (l : List ℕ) → count v (keep p l) ≡ cond (p v) (count v l) 0
    go [] = by_cases (p v) (λ e. rw e) (λ e. rw e)
    go (u ∷ l) =
        by_cases (eqb v u)
        (λ e. let q : v ≡ u = eqb-true v u e in
        by_cases (p u)
        (λ t. rw (t, e) (ap suc (go l) ∙ rw (ap p q ∙ t)))
        (λ t. rw t (go l ∙ rw (ap p q ∙ t))))
        (λ e. by_cases (p u) (λ t. rw (t, e) (go l)) (λ t. rw (t, e) (go l)))

    in_range : (v m : ℕ) → count v (range m) ≡ cond (ltb v m) 1 0
    in_range v m =
        by_cases (ltb v m)
        (λ e. rw e (count_in v 0 m (omega arith) (omega (arith, ltb-true v m e))))
        (λ e. rw e (count_out v 0 m (λ x y. omega (arith, ltb-false v m e))))

    both : (a b : Bool) → ◌≡◌ {A = ℕ} (cond a (cond b 1 0) 0) (cond (a && b) 1 0)
    both true b = refl
    both false b = refl

-- a list that names no number twice, and only numbers below m, has the sums of its set
pub sum_set : (m : ℕ) (f : ℕ → ℕ) (l : List ℕ) → ((v : ℕ) → memb v l ≡ true → v < m) → ((v : ℕ) → count v l ≤ 1)
    → sum_of f (keep (λ j. memb j l) (range m)) ≡ sum_of f l
sum_set m f l low once =
    sum_same m f (keep (λ j. memb j l) (range m)) l
    (λ v e. omega (arith, from_memb v 0 m (and_right (memb v l) (memb v (range m)) (sym (memb-keep v (λ j. memb j l) (range m)) ∙ e))))
    low
    (λ v. count-keep (λ j. memb j l) m v ∙ by_cases (memb v l)
    (λ e. rw (e, lt-ltb v m (low v e)) (omega (arith, once v, count_memb v l e)))
    (λ e. rw e (sym (count_not_memb v l e))))

bits_is : (N : Network) (l : List ℕ) → bits N (λ j. false) l ≡ sum_of (λ j. weight N j) l
bits_is N [] = refl
bits_is N (j ∷ l) = ap (λ (x : ℕ). weight N j + x) (bits_is N l)

-- a slot with the set of a leaf's indices weighs what the leaf's table has
pub leaf_size : (N : Network) → Accepted N → (ws : List ℕ) (W u v : ℕ) → index_count N ≤ W * 64 → v < leaf_count N
    → ((j : ℕ) → j < W * 64 → held ws W u j ≡ memb j (lists N (leaf v)))
    → weighed N.weights [] (either ws W u u) (W * 64) ≡ size_of N (leaf v)
leaf_size N acc ws W u v fits h hold =
    weighed-bits N (either ws W u u) (λ j. memb j (legs N v)) (W * 64) fits (λ j b. or_self (held ws W u j) ∙ hold j (omega arith))
    ∙ bits_is N (keep (λ j. memb j (legs N v)) (range (index_count N)))
    ∙ sum_set (index_count N) (λ j. weight N j) (legs N v) (λ j m. acc.in_range v j h m) (λ j. acc.once v j h)
    ∙ sym (bits_is N (legs N v))

-- ---- what stays ----

any_last : (p : ℕ → Bool) (n : ℕ) → anyb p (range (suc n)) ≡ (anyb p (range n) || p n)
any_last p n = go 0 n ∙ ap (λ (i : ℕ). anyb p (range n) || p i) (let e : 0 + n ≡ n = omega arith in e)
  where
    go : (k n : ℕ) → anyb p (from k (suc n)) ≡ (anyb p (from k n) || p (k + n))
    go k zero = or-false (p k) ∙ ap p (omega arith)
    go k (suc n) =
        ap (λ (b : Bool). p k || b) (go (suc k) n ∙ ap (λ (i : ℕ). anyb p (from (suc k) n) || p i) (let e : suc k + n ≡ k + suc n = omega arith in e))
        ∙ sym (or_assoc (p k) (anyb p (from (suc k) n)) (p (k + suc n)))

others_any : (counts legs : List ℕ) (inside : ℕ → Bool) (n j : ℕ) → others counts legs inside n j ≡ anyb (λ i. not (inside i) && leaf_has counts legs i j) (range n)
others_any counts legs inside zero j = refl
others_any counts legs inside (suc n) j =
    ap (λ (b : Bool). b || (not (inside n) && leaf_has counts legs n j)) (others_any counts legs inside n j)
    ∙ sym (any_last (λ i. not (inside i) && leaf_has counts legs i j) n)

-- is a leaf below one of the leaves of a list
below_leaves : (l : List ℕ) (i : ℕ) → anyb (λ t. below t i) (leaves_of l) ≡ memb i l
below_leaves [] i = refl
below_leaves (k ∷ l) i = ap₂ (λ (a b : Bool). a || b) (eqb_sym k i) (below_leaves l i)

-- the indices of the leaves that are not inside are those that the definition calls external
pub others-named : (N : Network) (n : ℕ) (weights counts legs outputs leaves : List ℕ) → Lends N n weights counts legs outputs
    → (inside : ℕ → Bool) → ((i : ℕ) → i < n → inside i ≡ memb i leaves) → (j : ℕ)
    → others counts legs inside n j ≡ named N (λ i. not (anyb (λ t. below t i) (leaves_of leaves))) j
unfolding named
others-named N n weights counts cells outputs leaves L inside h j =
    others_any counts cells inside n j
    ∙ any_ext _ (λ i. not (anyb (λ t. below t i) (leaves_of leaves)) && memb j (legs N i)) n
    (λ i b. ap₂ (λ (x y : Bool). not x && y) (h i b ∙ sym (below_leaves leaves i)) (L.legs_are i j b))
    ∙ ap (λ (k : ℕ). anyb (λ i. not (anyb (λ t. below t i) (leaves_of leaves)) && memb j (legs N i)) (range k)) L.leaves

-- Two trees are the same plan just if each one's slots are found among the other's. Assumes nothing.
use Rattle.std.specs.Prelude.{◌≡◌, refl, Bool, not, ◌&&◌, ◌||◌, cond, List, ℕ, zero, suc, ◌+◌, ◌-◌, ◌*◌, ◌/◌, ◌%◌, ◌≤◌, ◌<◌, ltb, length, get_or, take, drop, Option}
use Rattle.std.proofs.Math.Path.{sym, ap, ap₂}
use Rattle.std.proofs.Common.{◌∙◌, subst, mul-le-mul_right, take_at}
use Rattle.std.proofs.Math.Bool.{true, false}
use native.Mathlib.Omega.{arith}
use Rattle.std.proofs.Math.Decide.{dec_le}
use Rattle.std.proofs.Math.Dec.{eqb}
use borrow.Author.Tests.{eq-eqb, eqb-true, lt-ltb, le-ltb, not-true, not-false}
use Rattle.spec.specs.Lists.{allb, anyb, from, range}
use Rattle.spec.specs.Tree.{Tree, node, below_of, Pair, tree_at, pairs_of, step_order, agree, within, same_plan}
use Rattle.spec.specs.Memory.{over}
use Rattle.spec.specs.Calls.{wrong_tree}
use Rattle.laws.specs.Booleans.{bool_ext}
use Rattle.laws.specs.ListLaws.{all_elim, all_intro, from_memb, memb-range}
use Rattle.laws.specs.Walks.{valid_tree, valid_none}
use Rattle.laws.specs.Arrays.{valid_inner}
use Rattle.laws.specs.Sameness.{agree_eq, eq_agree}
use Rattle.laws.specs.SamePrices.{high_leaf}
use Rattle.slots.specs.Slots.{held, Words, held-digit, word_is, word_held}
use Rattle.bits.specs.Digits.{digit}
use Rattle.laws.specs.FileLists.{over_front}
use Rattle.cells.specs.Cells.{over_length}
use Rattle.walk.specs.Order.{order_length}
use Rattle.walk.specs.Wrong.{not_wrong}
use Rattle.leafsets.specs.Passes.{singles, ups, singles_length}
use Rattle.leafsets.specs.Search.{same_words, all_found}
use Rattle.leafsets.specs.Right.{RightAt, singles_right, tree_right, leaf_set, ups_length}

-- ---- the same words, the same leaves ----

module _ (w : ℕ) (ws : List ℕ) (s u : ℕ) (f g : ℕ → Bool) (n : ℕ) (fits : n ≤ w * 64) (words : Words ws)
    (hf : (j : ℕ) → j < w * 64 → held ws w s j ≡ f j) (hg : (j : ℕ) → j < w * 64 → held ws w u j ≡ g j)
    (lf : (j : ℕ) → n ≤ j → f j ≡ false) (lg : (j : ℕ) → n ≤ j → g j ≡ false) where
  held_same : same_words w ws s u ≡ true → (j : ℕ) → j < w * 64 → held ws w s j ≡ held ws w u j
  unfolding same_words held
  held_same e j b =
      ap (λ (x : ℕ). digit x (j % 64))
      (eqb-true (get_or ws (s * w + j / 64) 0) (get_or ws (u * w + j / 64) 0)
      (all_elim (λ k. eqb (get_or ws (s * w + k) 0) (get_or ws (u * w + k) 0)) (j / 64) (range w) e (memb-range (j / 64) w (omega arith))))

  same_held : ((j : ℕ) → j < w * 64 → held ws w s j ≡ held ws w u j) → same_words w ws s u ≡ true
  unfolding same_words
  same_held h =
      all_intro (λ k. eqb (get_or ws (s * w + k) 0) (get_or ws (u * w + k) 0)) (range w) (λ k m.
      let b : k < w = omega (arith, from_memb k 0 w m) in
      eq-eqb (get_or ws (s * w + k) 0) (get_or ws (u * w + k) 0)
      (word_is (held ws w u) k (get_or ws (s * w + k) 0) (words (s * w + k)) (λ i c. sym (held-digit ws w s k i c) ∙ h (k * 64 + i) (omega arith))
      ∙ sym (word_held ws w u k words)))

  pub same_leaves : same_words w ws s u ≡ allb (λ i. agree (f i) (g i)) (range n)
  same_leaves =
      bool_ext (same_words w ws s u) (allb (λ i. agree (f i) (g i)) (range n))
      (λ e. all_intro (λ i. agree (f i) (g i)) (range n) (λ i m.
      let b : i < w * 64 = omega (arith, from_memb i 0 n m) in
      eq_agree (f i) (g i) (sym (hf i b) ∙ held_same e i b ∙ hg i b)))
      (λ e. same_held (λ j b. hf j b ∙ each e j ∙ sym (hg j b)))
    where
      each : allb (λ i. agree (f i) (g i)) (range n) ≡ true → (j : ℕ) → f j ≡ g j
      each e j =
          elim (dec_le n j) [
            | yes h ↦ lf j h ∙ sym (lg j h)
            | no h ↦ agree_eq (f j) (g j) (all_elim (λ i. agree (f i) (g i)) j (range n) e (memb-range j n (omega arith)))
          ]

-- ---- tests of numbers that are moved on ----

all_moved : (d k c : ℕ) (p q : ℕ → Bool) → ((v : ℕ) → k ≤ v → v < k + c → p (d + v) ≡ q v) → allb p (from (d + k) c) ≡ allb q (from k c)
all_moved d k zero p q e = refl
all_moved d k (suc c) p q e =
    ap₂ (λ (x y : Bool). x && y) (e k (omega arith) (omega arith))
    (ap (λ (m : ℕ). allb p (from m c)) (let z : suc (d + k) ≡ d + suc k = omega arith in z) ∙ all_moved d (suc k) c p q (λ v a b. e v (omega arith) (omega arith)))

any_moved : (d k c : ℕ) (p q : ℕ → Bool) → ((v : ℕ) → k ≤ v → v < k + c → p (d + v) ≡ q v) → anyb p (from (d + k) c) ≡ anyb q (from k c)
any_moved d k zero p q e = refl
any_moved d k (suc c) p q e =
    ap₂ (λ (x y : Bool). x || y) (e k (omega arith) (omega arith))
    (ap (λ (m : ℕ). anyb p (from m c)) (let z : suc (d + k) ≡ d + suc k = omega arith in z) ∙ any_moved d (suc k) c p q (λ v a b. e v (omega arith) (omega arith)))

-- ---- slots that hold the leaves below the inner nodes of an array ----

pub record Holds (w : ℕ) (ws : List ℕ) (n d : ℕ) (a : List Pair) : Type 0 where
  pub long : length a ≡ n - 1
  pub sets : (v j : ℕ) → n ≤ v → v < n + (n - 1) → j < w * 64 → held ws w (d + v) j ≡ below_of (tree_at n a v) j
  pub leaves : (v j : ℕ) → n ≤ v → v < n + (n - 1) → n ≤ j → below_of (tree_at n a v) j ≡ false

pub found_within : (w : ℕ) (ws : List ℕ) (n d e : ℕ) (a b : List Pair) → n ≤ w * 64 → Words ws → Holds w ws n d a → Holds w ws n e b
    → all_found w ws (d + n) (e + n) (n - 1) ≡ within n a b
unfolding all_found
found_within w ws n d e a b fits words x y =
    all_moved d n (n - 1) _ (λ v. anyb (λ u. allb (λ i. agree (below_of (tree_at n a v) i) (below_of (tree_at n b u) i)) (range n)) (from n (n - 1)))
    (λ v h k. any_moved e n (n - 1) _ (λ u. allb (λ i. agree (below_of (tree_at n a v) i) (below_of (tree_at n b u) i)) (range n))
    (λ u p q. same_leaves w ws (d + v) (e + u) (λ i. below_of (tree_at n a v) i) (λ i. below_of (tree_at n b u) i) n fits words
    (λ j l. x.sets v j h k l) (λ j l. y.sets u j p q l) (λ j l. x.leaves v j h k l) (λ j l. y.leaves u j p q l)))
    ∙ ap₂ (λ (i j : ℕ). allb (λ v. anyb (λ u. allb (λ i. agree (below_of (tree_at n a v) i) (below_of (tree_at n b u) i)) (range n)) (from n j)) (from n i))
    (sym x.long) (sym y.long)

-- ---- a valid tree ----

right_long : (n : ℕ) (kids : List ℕ) → wrong_tree n kids ≡ false → length (pairs_of kids) ≡ n - 1
right_long zero kids e = valid_none (pairs_of kids) (not_wrong 0 kids e) ∙ omega arith
right_long (suc m) kids e = let (t, w, ok) = valid_tree (suc m) (pairs_of kids) (omega arith) (not_wrong (suc m) kids e) in omega (arith, ok.inner)

right_leaves : (n : ℕ) (kids : List ℕ) → wrong_tree n kids ≡ false → (v j : ℕ) → n ≤ v → v < n + (n - 1) → n ≤ j
    → below_of (tree_at n (pairs_of kids) v) j ≡ false
right_leaves n kids e v j h k l =
    let (t, w, ok) = valid_tree n (pairs_of kids) (omega arith) (not_wrong n kids e) in
    let i = valid_inner n (pairs_of kids) t ok v h (omega (arith, right_long n kids e)) in
    ap (λ (o : Option Tree). below_of o j) i.here ∙ high_leaf n (pairs_of kids) (node v i.l i.r) i.described j l

-- ---- two trees, one after the other ----

module _ (w n : ℕ) (kids others : List ℕ) (ea : wrong_tree n kids ≡ false) (eb : wrong_tree n others ≡ false) where
  -- what the slots are to hold: below 2 n the first tree's nodes, then the second tree's
  unfoldable F : ℕ → ℕ → Bool
  F s j = cond (ltb s (n * 2)) (below_of (tree_at n (pairs_of kids) s) j) (below_of (tree_at n (pairs_of others) (s - n * 2)) j)

  first_is : (v j : ℕ) → v < n * 2 → F (0 + v) j ≡ below_of (tree_at n (pairs_of kids) v) j
  unfolding F
  first_is v j h = ap (λ (s : ℕ). F s j) (let e : 0 + v ≡ v = omega arith in e) ∙ rw (lt-ltb v (n * 2) h)

  second_is : (v j : ℕ) → F (n * 2 + v) j ≡ below_of (tree_at n (pairs_of others) v) j
  unfolding F
  second_is v j =
      rw (le-ltb (n * 2 + v) (n * 2) (omega arith))
      (ap (λ (u : ℕ). below_of (tree_at n (pairs_of others) u) j) (let e : n * 2 + v - n * 2 ≡ v = omega arith in e))

  module _ (ws : List ℕ) (room : (n * 2 + n * 2) * w ≤ length ws) where
    abbrev ws₁ : List ℕ
    ws₁ = singles w 0 ws n

    abbrev ws₂ : List ℕ
    ws₂ = singles w (n * 2) ws₁ n

    abbrev ws₃ : List ℕ
    ws₃ = ups w 0 kids n ws₂ (step_order kids n)

    abbrev ws₄ : List ℕ
    ws₄ = ups w (n * 2) others n ws₃ (step_order others n)

    fits : (k : ℕ) → k ≤ n * 2 + n * 2 → k * w ≤ length ws
    fits k h = omega (arith, mul-le-mul_right {m = k} {n = n * 2 + n * 2} w h)

    both : 2 ≤ n → ((v : ℕ) → v ≤ n * 2 - 2 → RightAt w F ws₄ (0 + v)) × ((v : ℕ) → v ≤ n * 2 - 2 → RightAt w F ws₄ (n * 2 + v))
    both two =
        let l₁ : length ws₁ ≡ length ws = singles_length w 0 ws n in
        let l₂ : length ws₂ ≡ length ws = singles_length w (n * 2) ws₁ n ∙ l₁ in
        let l₃ : length ws₃ ≡ length ws = ups_length w 0 kids n ws₂ (step_order kids n) ∙ l₂ in
        let (k₁, r₁) = singles_right w F 0 ws n (fits (0 + n) (omega arith))
        (λ i j h. leaf_set n (pairs_of kids) i j h ∙ sym (first_is i j (omega arith))) in
        let (k₂, r₂) = singles_right w F (n * 2) ws₁ n (omega (arith, fits (n * 2 + n) (omega arith)))
        (λ i j h. leaf_set n (pairs_of others) i j h ∙ sym (second_is i j)) in
        let (k₃, r₃) = tree_right w 0 kids n F (right_long n kids ea) two (λ v j h. first_is v j (omega arith)) ea ws₂
        (omega (arith, fits (0 + n * 2) (omega arith))) (λ i h. k₂ (0 + i) (r₁ i h)) in
        let (k₄, r₄) = tree_right w (n * 2) others n F (right_long n others eb) two (λ v j h. second_is v j) eb ws₃
        (omega arith) (λ i h. k₃ (n * 2 + i) (r₂ i h)) in
        ((λ v h. k₄ (0 + v) (r₃ v h)), r₄)

    -- the slots that the passes leave
    pub hold_both : Holds w ws₄ n 0 (pairs_of kids) × Holds w ws₄ n (n * 2) (pairs_of others)
    hold_both = (
      record {
        long = right_long n kids ea;
        sets = λ v j h k l. let (a, b) = both (omega arith) in a v (omega arith) j l ∙ first_is v j (omega arith);
        leaves = right_leaves n kids ea;
      },
      record {
        long = right_long n others eb;
        sets = λ v j h k l. let (a, b) = both (omega arith) in b v (omega arith) j l ∙ second_is v j;
        leaves = right_leaves n others eb;
      },
    )

    pub found_same : n ≤ w * 64 → Words ws₄ → (all_found w ws₄ (0 + n) (n * 2 + n) (n - 1) ≡ within n (pairs_of kids) (pairs_of others))
        × (all_found w ws₄ (n * 2 + n) (0 + n) (n - 1) ≡ within n (pairs_of others) (pairs_of kids))
    found_same h words = let (a, b) = hold_both in (
      found_within w ws₄ n 0 (n * 2) (pairs_of kids) (pairs_of others) h words a b,
      found_within w ws₄ n (n * 2) 0 (pairs_of others) (pairs_of kids) h words b a,
    )

-- what the code comes to: sets of two words, which 128 leaves fit
module _ (n : ℕ) (kids others ws v₁ v₂ v₃ v₄ : List ℕ) (c : ℕ) (small : n ≤ 128) (room : 1024 ≤ length ws)
    (ea : wrong_tree n kids ≡ false) (eb : wrong_tree n others ≡ false) (e₁ : v₁ ≡ singles 2 0 ws n) (e₂ : v₂ ≡ singles 2 (n * 2) v₁ n)
    (e₃ : v₃ ≡ ups 2 0 kids n v₂ (step_order kids n)) (e₄ : v₄ ≡ ups 2 (n * 2) others n v₃ (step_order others n)) (count : c ≡ n - 1)
    (words : Words v₄) where
  here : v₄ ≡ ws₄ 2 n kids others ea eb ws (omega arith)
  here =
      e₄ ∙ ap (λ (l : List ℕ). ups 2 (n * 2) others n l (step_order others n))
      (e₃ ∙ ap (λ (l : List ℕ). ups 2 0 kids n l (step_order kids n)) (e₂ ∙ ap (λ (l : List ℕ). singles 2 (n * 2) l n) e₁))

  found : (all_found 2 v₄ (0 + n) (n * 2 + n) (n - 1) ≡ within n (pairs_of kids) (pairs_of others))
      × (all_found 2 v₄ (n * 2 + n) (0 + n) (n - 1) ≡ within n (pairs_of others) (pairs_of kids))
  found =
      subst (λ (l : List ℕ). Words l
      → (all_found 2 l (0 + n) (n * 2 + n) (n - 1) ≡ within n (pairs_of kids) (pairs_of others))
      × (all_found 2 l (n * 2 + n) (0 + n) (n - 1) ≡ within n (pairs_of others) (pairs_of kids)))
      (sym here) (found_same 2 n kids others ea eb ws (omega arith) (omega arith)) words

  zero_n : n ≡ 0 + n
  zero_n = omega arith

  pub one_way : (b : Bool) → b ≡ all_found 2 v₄ n (n * 2 + n) c → not b ≡ true → false ≡ same_plan n (pairs_of kids) (pairs_of others)
  unfolding same_plan
  one_way b e f =
      let q : within n (pairs_of kids) (pairs_of others) ≡ false
      = sym found.0 ∙ sym (ap₂ (λ (k m : ℕ). all_found 2 v₄ k (n * 2 + n) m) zero_n count) ∙ sym e ∙ not-true b f in
      rw q

  pub other_way : (b d : Bool) → b ≡ all_found 2 v₄ n (n * 2 + n) c → not b ≡ false → d ≡ all_found 2 v₄ (n * 2 + n) n c
      → d ≡ same_plan n (pairs_of kids) (pairs_of others)
  unfolding same_plan
  other_way b d e f g =
      let q : within n (pairs_of kids) (pairs_of others) ≡ true
      = sym found.0 ∙ sym (ap₂ (λ (k m : ℕ). all_found 2 v₄ k (n * 2 + n) m) zero_n count) ∙ sym e ∙ not-false b f in
      rw q (g ∙ ap₂ (λ (k m : ℕ). all_found 2 v₄ (n * 2 + n) k m) zero_n count ∙ found.1)

-- the front of a list that an order is written over
pub order_front : (d : List ℕ) (kids : List ℕ) (n k : ℕ) (l : List ℕ) → wrong_tree n kids ≡ false → l ≡ over d (step_order kids n) → n - 1 ≤ length l
    → k ≡ n - 1 → take k l ≡ step_order kids n
order_front d kids n k l e q h z =
    let s = step_order kids n in
    let len : length s ≡ n - 1 = order_length kids n e in
    ap (take k) (q ∙ over_front d s (omega (arith, ap length q, over_length d s)))
    ∙ take_at s (drop (length s) d) k (len ∙ sym z)

-- Which refusal a field's payload brings: definitions, and laws of the loop that looks at indices. Assumes nothing.
use Rattle.std.specs.Prelude.{Bool, not, ◌||◌, cond, List, [], ◌∷◌, ◌≡◌, refl, ℕ, zero, suc, ◌+◌, ◌<◌, ◌≤◌, eqb, ltb, leb, length, get_or, take, drop, Option, None, Some, Result, Ok, Err}
use Rattle.std.proofs.Math.Bool.{true, false}
use Rattle.spec.specs.declared.Refusal.{Refusal}
use Rattle.spec.specs.declared.Refusal.TheVariants.{TooLarge, OutOfRange, Repeated, InvalidTree, InvalidFlags}
use Rattle.std.proofs.Common.{sym, ap, ◌∙◌, add-one, arith, drop-cons, ne_eqb}
use Rattle.std.proofs.Math.Decide.{dec_le}
use Rattle.std.proofs.Math.Seq.{drop-length}
use Rattle.std.proofs.lemmas.Bool.{eqb-false}
use Rattle.spec.specs.Lists.{memb, anyb}
use Rattle.spec.specs.Refusal.{check, first, decide}
use Rattle.spec.specs.Network.{max_leaves, max_legs, max_outputs}
use Rattle.spec.specs.Calls.{wrong_tree}
use Rattle.spec.specs.File.{weights_checks, index_checks, index_bytes}
use Rattle.spec.specs.Memory.{over, placed}
use Rattle.cells.specs.Cells.{over_length, placed_there}
use Rattle.walk.specs.Wrong.{few, other_length}
use Rattle.laws.specs.Booleans.{by_cases, or_introl, or_intror}

-- a check's answer: nothing, or the refusal
abbrev pub verdict : Option Refusal → Result (Unit {0}) Refusal
verdict o = decide o (Ok tt)

unfoldable pub weights_refusal : List ℕ → Option Refusal
weights_refusal l = first (weights_checks l)

-- a leaf of a network of m indices that has n leaves already
unfoldable pub leaf_refusal : ℕ → ℕ → List ℕ → Option Refusal
leaf_refusal m n l = first (check (ltb max_legs (length l) || leb max_leaves n) TooLarge ∷ index_checks m [] l)

unfoldable pub outputs_refusal : ℕ → List ℕ → Option Refusal
outputs_refusal m l = first (check (ltb max_outputs (length l)) TooLarge ∷ index_checks m [] l)

unfoldable pub flags_refusal : ℕ → List ℕ → Option Refusal
flags_refusal m l = first (check (ltb m (length l) || anyb (λ b. ltb 1 b) l) InvalidFlags ∷ [])

-- a tree of n leaves
unfoldable pub tree_refusal : ℕ → List ℕ → Option Refusal
tree_refusal n l = first (check (wrong_tree n l) InvalidTree ∷ [])

-- ---- indices, byte by byte ----

-- the first k of a list, the last of them first
abbrev pub before : ℕ → List ℕ → List ℕ
before zero l = []
before (suc k) l = get_or l k 0 ∷ before k l

module _ (m : ℕ) (l : List ℕ) where
  -- nothing is found before place k
  abbrev pub Clean : ℕ → Type 0
  Clean k = index_bytes m [] l ≡ index_bytes m (before k l) (drop k l)

  -- what place k decides
  at_place : (k : ℕ) → k < length l → Clean k
      → index_bytes m [] l
      ≡ cond (leb m (get_or l k 0)) (Some OutOfRange) (cond (memb (get_or l k 0) (before k l)) (Some Repeated) (index_bytes m (before (suc k) l) (drop (suc k) l)))
  at_place k h e = e ∙ ap (index_bytes m (before k l)) (drop-cons l k 0 h)

  pub clean_out : (k : ℕ) → k < length l → leb m (get_or l k 0) ≡ true → Clean k → index_bytes m [] l ≡ Some OutOfRange
  clean_out k h f e = rw f at (at_place k h e)

  pub clean_again : (k : ℕ) → k < length l → leb m (get_or l k 0) ≡ false → memb (get_or l k 0) (before k l) ≡ true → Clean k
      → index_bytes m [] l ≡ Some Repeated
  clean_again k h f g e = rw (f, g) at (at_place k h e)

  pub clean_next : (k : ℕ) → k < length l → leb m (get_or l k 0) ≡ false → memb (get_or l k 0) (before k l) ≡ false → Clean k → Clean (k + 1)
  clean_next k h f g e = rw add-one (rw (f, g) at (at_place k h e))

  pub clean_end : (k : ℕ) → k ≡ length l → Clean k → index_bytes m [] l ≡ None
  clean_end k h e = e ∙ ap (λ n. index_bytes m (before k l) (drop n l)) h ∙ ap (index_bytes m (before k l)) (drop-length l)

  -- the search among the first i: found, and one more looked at
  pub before_found : (x i k : ℕ) → i < k → get_or l i 0 ≡ x → memb x (before k l) ≡ true
  before_found x i zero h e = absurd (omega arith)
  before_found x i (suc k) h e =
      by_cases (eqb x (get_or l k 0))
      (λ f. or_introl (eqb x (get_or l k 0)) (memb x (before k l)) f)
      (λ f. let n : i ≡ k → ⊥ = λ q. eqb-false x (get_or l k 0) f (sym e ∙ ap (λ j. get_or l j 0) q) in
      or_intror (eqb x (get_or l k 0)) (memb x (before k l)) (before_found x i k (omega (arith, n)) e))

  pub before_next : (x i : ℕ) → (get_or l i 0 ≡ x → ⊥) → memb x (before i l) ≡ false → memb x (before (i + 1) l) ≡ false
  before_next x i n e = rw add-one (rw (ne_eqb x (get_or l i 0) (λ q. n (sym q))) e)

-- ---- a tree's bytes ----

-- the bytes, as they stand at the front of a longer list
pub copied_front : (d s y : List ℕ) → y ≡ over d s → length s ≤ length y → take (length s) y ≡ s
unfolding placed
copied_front d s y e h = ap (take (length s)) e ∙ placed_there d s 0 (omega (arith, ap length e, over_length d s))

module _ (n : ℕ) (l : List ℕ) where
  tree_answer : (b : Bool) → wrong_tree n l ≡ b → verdict (tree_refusal n l) ≡ cond b (Err InvalidTree) (Ok tt)
  unfolding tree_refusal
  tree_answer true e = rw e
  tree_answer false e = rw e

  turned : (w b : Bool) → b ≡ not w → w ≡ not b
  turned true b e = ap not (sym e)
  turned false b e = ap not (sym e)

  pub tree_right : {b : Bool} → b ≡ not (wrong_tree n l) → b ≡ true → Ok tt ≡ verdict (tree_refusal n l)
  tree_right e t = sym (tree_answer false (turned (wrong_tree n l) true (sym t ∙ e)))

  pub tree_wrong : {b : Bool} → b ≡ not (wrong_tree n l) → b ≡ false → Err InvalidTree ≡ verdict (tree_refusal n l)
  tree_wrong e f = sym (tree_answer true (turned (wrong_tree n l) false (sym f ∙ e)))

  -- more children than 128 leaves can have
  pub tree_long : n ≤ 128 → 256 < length l → Err InvalidTree ≡ verdict (tree_refusal n l)
  tree_long h k =
      elim (dec_le 2 n) [
        | yes q ↦ tree_wrong (other_length n l q (λ e. omega arith)) refl
        | no q ↦ tree_wrong (few n l (omega arith)) (ne_eqb (length l) 0 (λ e. omega arith))
      ]

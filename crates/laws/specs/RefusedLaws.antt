-- Each refusal of a record means its facts: the conditions one by one, and then their order. Assumes nothing.
use Rattle.std.specs.Prelude.{◌≡◌, refl, Bool, true, false, ◌||◌, cond, List, [], ◌∷◌, ℕ, suc, ◌≤◌, ◌<◌, eqb, ltb, leb, length, get_or, Option, None, Some}
use Rattle.std.proofs.Common.{ap, subst, arith, ltb-true, ltb-false, lt-ltb, leb-true}
use Rattle.spec.specs.declared.Refusal.{Refusal}
use Rattle.spec.specs.declared.Refusal.TheVariants.{TooLarge, Overweight, OutOfRange, Repeated}
use Rattle.std.proofs.Math.ListN.{get_or-eq_default}
use Rattle.spec.specs.Lists.{memb, anyb, count}
use Rattle.spec.specs.Refusal.{number_of, code_of}
use Rattle.spec.specs.Network.{Network, leaf_count, index_count, weight, legs, max_leaves, max_indices, max_legs, max_outputs, max_weight, repeats, any_out_of_range}
use Rattle.spec.specs.NetworkClaims.{CountAbove, many_leaves, many_indices, many_legs, many_outputs, WeightAbove, IndexBeyond, beyond_in_leaf, beyond_in_outputs, IndexRepeated, repeated_in_leaf, repeated_in_outputs, RefusedJust}
use Rattle.laws.specs.ListLaws.{any_member, count_memb}
use Rattle.laws.specs.Booleans.{by_cases, or_cases, or_none, clash, eqb_self}
use Rattle.laws.specs.Accepted.{none_at, in_range, once, or_four}

-- a test tells a fact
pub record Tells (b : Bool) (P : Type 0) : Type 0 where
  pub holds : b ≡ true → P
  pub fails : b ≡ false → P → ⊥

told : {b : Bool} {P : Type 0} → Tells b P → P → b ≡ true
told {b = b} t p = by_cases b (λ e. e) (λ e. absurd (t.fails e p))

untold : {b : Bool} {P : Type 0} → Tells b P → (P → ⊥) → b ≡ false
untold {b = b} t n = by_cases b (λ e. absurd (n (t.holds e))) (λ e. e)

-- ---- the conditions ----

-- a member passes the test: one at some place
some_at : {A : Type 0} (p : A → Bool) (d : A) (l : List A) → anyb p l ≡ true → (i : ℕ) × (i < length l) × (p (get_or l i d) ≡ true)
some_at p d [] e = clash e refl
some_at p d (x ∷ l) e =
    or_cases (p x) (anyb p l) e
    (λ h. (0, omega arith, h))
    (λ h. let (i, b, k) = some_at p d l h in (suc i, omega arith, k))

beyond_in : (m : ℕ) (l : List ℕ) → any_out_of_range m l ≡ true → (j : ℕ) × (memb j l ≡ true) × (m ≤ j)
beyond_in m l e = any_member (λ j. leb m j) l e (λ j h k. (j, h, leb-true m j k))

repeated_in : (l : List ℕ) → repeats l ≡ true → (j : ℕ) × (1 < count j l)
repeated_in [] e = clash e refl
repeated_in (k ∷ l) e =
    or_cases (memb k l) (repeats l) e
    (λ h. (k, rw (eqb_self k) (omega (arith, count_memb k l h))))
    (λ h. let (j, b) = repeated_in l h in
    (j, by_cases (eqb j k) (λ q. rw q (omega arith)) (λ q. rw q b)))

module _ (N : Network) where
  abbrev large : Bool
  large =
      ltb max_leaves (leaf_count N)
      || (ltb max_indices (index_count N) || (anyb (λ l. ltb max_legs (length l)) N.leaves || ltb max_outputs (length N.outputs)))

  tells_large : Tells large (CountAbove N)
  tells_large =
      record {
        holds = λ e. or_cases (ltb max_leaves (leaf_count N)) _ e (λ h. many_leaves (ltb-true max_leaves (leaf_count N) h))
            (λ e. or_cases (ltb max_indices (index_count N)) _ e (λ h. many_indices (ltb-true max_indices (index_count N) h))
            (λ e. or_cases (anyb (λ l. ltb max_legs (length l)) N.leaves) _ e
            (λ h. let (i, b, k) = some_at (λ l. ltb max_legs (length l)) [] N.leaves h in many_legs i b (ltb-true max_legs (length (legs N i)) k))
            (λ h. many_outputs (ltb-true max_outputs (length N.outputs) h))));
        fails = λ e. none_above (or_four (ltb max_leaves (leaf_count N)) (ltb max_indices (index_count N)) _ (ltb max_outputs (length N.outputs)) e);
      }
    where
      none_above : (ltb max_leaves (leaf_count N) ≡ false) × (ltb max_indices (index_count N) ≡ false)
          × (anyb (λ l. ltb max_legs (length l)) N.leaves ≡ false) × (ltb max_outputs (length N.outputs) ≡ false) → CountAbove N → ⊥
      none_above (l, i, g, o) (many_leaves h) = clash (lt-ltb max_leaves (leaf_count N) h) l
      none_above (l, i, g, o) (many_indices h) = clash (lt-ltb max_indices (index_count N) h) i
      none_above (l, i, g, o) (many_legs k b h) =
          clash (lt-ltb max_legs (length (legs N k)) h) (none_at (λ x. ltb max_legs (length x)) [] N.leaves g k b)
      none_above (l, i, g, o) (many_outputs h) = clash (lt-ltb max_outputs (length N.outputs) h) o

  tells_heavy : Tells (anyb (λ w. ltb max_weight w) N.weights) (WeightAbove N)
  tells_heavy =
      record {
        holds = λ e. let (j, b, k) = some_at (λ w. ltb max_weight w) 0 N.weights e in (j, ltb-true max_weight (weight N j) k);
        fails = λ e (j, h). by_cases (ltb j (index_count N))
            (λ b. clash (lt-ltb max_weight (weight N j) h) (none_at (λ w. ltb max_weight w) 0 N.weights e j (ltb-true j (index_count N) b)))
            (λ b. absurd (omega (arith, h, get_or-eq_default N.weights 0 (ltb-false j (index_count N) b))));
      }

  tells_range : Tells (anyb (any_out_of_range (index_count N)) N.leaves || any_out_of_range (index_count N) N.outputs) (IndexBeyond N)
  tells_range =
      record {
        holds = λ e. or_cases (anyb (any_out_of_range (index_count N)) N.leaves) (any_out_of_range (index_count N) N.outputs) e
            (λ h. let (i, b, k) = some_at (any_out_of_range (index_count N)) [] N.leaves h in
            let (j, q, z) = beyond_in (index_count N) (legs N i) k in beyond_in_leaf i j b q z)
            (λ h. let (j, q, z) = beyond_in (index_count N) N.outputs h in beyond_in_outputs j q z);
        fails = λ e. none_beyond (or_none (anyb (any_out_of_range (index_count N)) N.leaves) (any_out_of_range (index_count N) N.outputs) e);
      }
    where
      none_beyond : (anyb (any_out_of_range (index_count N)) N.leaves ≡ false) × (any_out_of_range (index_count N) N.outputs ≡ false) → IndexBeyond N → ⊥
      none_beyond (l, o) (beyond_in_leaf i j b q z) =
          omega (arith, z, in_range (index_count N) (legs N i) (none_at (any_out_of_range (index_count N)) [] N.leaves l i b) j q)
      none_beyond (l, o) (beyond_in_outputs j q z) = omega (arith, z, in_range (index_count N) N.outputs o j q)

  tells_again : Tells (anyb repeats N.leaves || repeats N.outputs) (IndexRepeated N)
  tells_again =
      record {
        holds = λ e. or_cases (anyb repeats N.leaves) (repeats N.outputs) e
            (λ h. let (i, b, k) = some_at repeats [] N.leaves h in let (j, z) = repeated_in (legs N i) k in repeated_in_leaf i j b z)
            (λ h. let (j, z) = repeated_in N.outputs h in repeated_in_outputs j z);
        fails = λ e. none_again (or_none (anyb repeats N.leaves) (repeats N.outputs) e);
      }
    where
      none_again : (anyb repeats N.leaves ≡ false) × (repeats N.outputs ≡ false) → IndexRepeated N → ⊥
      none_again (l, o) (repeated_in_leaf i j b z) = omega (arith, z, once (legs N i) (none_at repeats [] N.leaves l i b) j)
      none_again (l, o) (repeated_in_outputs j z) = omega (arith, z, once N.outputs o j)

-- ---- their order ----

-- the first of four conditions that holds
abbrev first_of : (a b c d : Bool) → Option Refusal
first_of a b c d = cond a (Some TooLarge) (cond b (Some Overweight) (cond c (Some OutOfRange) (cond d (Some Repeated) None)))

-- which holds, and which fail, by the number
abbrev Means : (a b c d : Bool) → ℕ → Type 0
Means a b c d n =
    (n ≡ 3 → a ≡ true)
    × (n ≡ 4 → (a ≡ false) × (b ≡ true))
    × (n ≡ 5 → (a ≡ false) × (b ≡ false) × (c ≡ true))
    × (n ≡ 6 → (a ≡ false) × (b ≡ false) × (c ≡ false) × (d ≡ true))

by_number : (a b c d : Bool) → Means a b c d (code_of (first_of a b c d))
by_number true b c d = ((λ e. refl), (λ e. absurd (omega arith)), (λ e. absurd (omega arith)), (λ e. absurd (omega arith)))
by_number false true c d = ((λ e. absurd (omega arith)), (λ e. (refl, refl)), (λ e. absurd (omega arith)), (λ e. absurd (omega arith)))
by_number false false true d = ((λ e. absurd (omega arith)), (λ e. absurd (omega arith)), (λ e. (refl, refl, refl)), (λ e. absurd (omega arith)))
by_number false false false true = ((λ e. absurd (omega arith)), (λ e. absurd (omega arith)), (λ e. absurd (omega arith)), (λ e. (refl, refl, refl, refl)))
by_number false false false false = ((λ e. absurd (omega arith)), (λ e. absurd (omega arith)), (λ e. absurd (omega arith)), (λ e. absurd (omega arith)))

abbrev OfFour : Option Refusal → Type 0
OfFour None = Unit {0}
OfFour (Some r) = memb (number_of r) (3 ∷ 4 ∷ 5 ∷ 6 ∷ []) ≡ true

of_four : (a b c d : Bool) → OfFour (first_of a b c d)
of_four true b c d = refl
of_four false true c d = refl
of_four false false true d = refl
of_four false false false true = refl
of_four false false false false = tt

pub refused_just : RefusedJust
refused_just N =
    let a : Tells _ (CountAbove N) = tells_large N in
    let b : Tells _ (WeightAbove N) = tells_heavy N in
    let c : Tells _ (IndexBeyond N) = tells_range N in
    let d : Tells _ (IndexRepeated N) = tells_again N in
    let heavy : Bool = anyb (λ w. ltb max_weight w) N.weights in
    let range : Bool = anyb (any_out_of_range (index_count N)) N.leaves || any_out_of_range (index_count N) N.outputs in
    let again : Bool = anyb repeats N.leaves || repeats N.outputs in
    let (is_3, is_4, is_5, is_6) = by_number (large N) heavy range again in
    record {
      large = (
        (λ e. a.holds (is_3 (ap code_of e))),
        (λ x. rw (told a x)),
      );
      heavy = (
        (λ e. let (p, q) = is_4 (ap code_of e) in (a.fails p, b.holds q)),
        (λ (x, y). rw (untold a x, told b y)),
      );
      range = (
        (λ e. let (p, q, s) = is_5 (ap code_of e) in (a.fails p, b.fails q, c.holds s)),
        (λ (x, y, z). rw (untold a x, untold b y, told c z)),
      );
      again = (
        (λ e. let (p, q, s, t) = is_6 (ap code_of e) in (a.fails p, b.fails q, c.fails s, d.holds t)),
        (λ (x, y, z, w). rw (untold a x, untold b y, untold c z, told d w)),
      );
      others = λ r e. subst OfFour e (of_four (large N) heavy range again);
    }

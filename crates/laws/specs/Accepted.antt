-- Acceptance: the test tells the statement; refusals have numbers of their own. Assumes nothing.
use Rattle.std.specs.Prelude.{◌≡◌, refl, Bool, true, false, ◌||◌, cond, List, [], ◌∷◌, ℕ, zero, suc, ◌-◌, ◌≤◌, ◌<◌, eqb, ltb, leb, length, get_or, None, Some}
use Rattle.std.proofs.Common.{sym, ap, ◌∙◌, arith, eqb-true, ltb-true, ltb-false, le-ltb, leb-false}
use Rattle.spec.specs.declared.Refusal.{Refusal}
use Rattle.spec.specs.declared.Refusal.TheVariants.{Truncated, WrongTag, TooLarge, Overweight, OutOfRange, Repeated, ShortBuffer, InvalidTree, InvalidFlags, TotalBeyond, DanglingIndex, TableTooWide, DrawsExhausted}
use Rattle.std.proofs.Math.ListN.{get_or-eq_default}
use Rattle.std.proofs.lemmas.Bool.{lt-leb}
use Rattle.spec.specs.Lists.{memb, anyb, count}
use Rattle.spec.specs.Refusal.{number_of, passes}
use Rattle.spec.specs.Network.{Network, leaf_count, index_count, weight, legs, max_leaves, max_indices, max_legs, max_outputs, max_weight, repeats, any_out_of_range, accepted}
use Rattle.spec.specs.NetworkClaims.{DistinctNumbers, Accepted, AcceptedMeans}
use Rattle.laws.specs.ListLaws.{any_intro, count_memb, count_not_memb}
use Rattle.laws.specs.Booleans.{by_cases, or_introl, or_intror, or_none, clash, eqb_self}

-- ---- numbers ----

-- the refusals by their numbers
abbrev pub by_number : List Refusal
by_number =
    Truncated
    ∷ WrongTag
    ∷ TooLarge
    ∷ Overweight
    ∷ OutOfRange
    ∷ Repeated
    ∷ ShortBuffer
    ∷ InvalidTree
    ∷ InvalidFlags
    ∷ TotalBeyond
    ∷ DanglingIndex
    ∷ TableTooWide
    ∷ DrawsExhausted
    ∷ []

abbrev of_number : ℕ → Refusal
of_number n = get_or by_number (n - 1) Truncated

back : (r : Refusal) → of_number (number_of r) ≡ r
back Truncated = refl
back WrongTag = refl
back TooLarge = refl
back Overweight = refl
back OutOfRange = refl
back Repeated = refl
back ShortBuffer = refl
back InvalidTree = refl
back InvalidFlags = refl
back TotalBeyond = refl
back DanglingIndex = refl
back TableTooWide = refl
back DrawsExhausted = refl

pub numbers_tell : DistinctNumbers
numbers_tell r s e = sym (back r) ∙ ap of_number e ∙ back s

-- ---- tests over lists ----

-- no member passes the test: none at any place
module _ {A : Type 0} (p : A → Bool) (d : A) where
  pub none_at : (l : List A) → anyb p l ≡ false → (i : ℕ) → i < length l → p (get_or l i d) ≡ false
  none_at [] e i h = absurd (omega arith)
  none_at (x ∷ l) e zero h = (or_none (p x) (anyb p l) e).0
  none_at (x ∷ l) e (suc i) h = none_at l (or_none (p x) (anyb p l) e).1 i (omega arith)

  pub at_none : (l : List A) → ((i : ℕ) → i < length l → p (get_or l i d) ≡ false) → anyb p l ≡ false
  at_none [] h = refl
  at_none (x ∷ l) h = rw (h 0 (omega arith)) (at_none l (λ i b. h (suc i) (omega arith)))

pub in_range : (m : ℕ) (l : List ℕ) → any_out_of_range m l ≡ false → (j : ℕ) → memb j l ≡ true → j < m
in_range m l e j h =
    by_cases (leb m j) (λ f. clash (any_intro (λ j. leb m j) j l f h) e) (λ f. leb-false m j f)

none_out_of_range : (m : ℕ) (l : List ℕ) → ((j : ℕ) → memb j l ≡ true → j < m) → any_out_of_range m l ≡ false
none_out_of_range m [] h = refl
none_out_of_range m (j ∷ l) h =
    rw (lt-leb m j (h j (or_introl (eqb j j) (memb j l) (eqb_self j)))) (none_out_of_range m l (λ k b. h k (or_intror (eqb k j) (memb k l) b)))

-- each number at most once, and no number twice
pub once : (l : List ℕ) → repeats l ≡ false → (j : ℕ) → count j l ≤ 1
once [] e j = omega arith
once (k ∷ l) e j =
    by_cases (eqb j k)
    (λ q. rw (q, count_not_memb j l (ap (λ x. memb x l) (eqb-true j k q) ∙ (or_none (memb k l) (repeats l) e).0)) (omega arith))
    (λ q. rw q (once l (or_none (memb k l) (repeats l) e).1 j))

no_repeats : (l : List ℕ) → ((j : ℕ) → count j l ≤ 1) → repeats l ≡ false
no_repeats [] h = refl
no_repeats (k ∷ l) h =
    by_cases (memb k l)
    (λ m. absurd (omega (arith, count_memb k l m, rw (eqb_self k) at (h k))))
    (λ m. rw m (no_repeats l (λ j. by_cases (eqb j k) (λ q. omega (arith, rw q at (h j))) (λ q. rw q at (h j)))))

-- ---- acceptance ----

-- no check holds: four tests fail
four_fail : (a b c d : Bool) (p q r s : Refusal)
    → passes (cond a (Some p) (cond b (Some q) (cond c (Some r) (cond d (Some s) None)))) ≡ true
    → (a ≡ false) × (b ≡ false) × (c ≡ false) × (d ≡ false)
four_fail true b c d p q r s e = clash e refl
four_fail false true c d p q r s e = clash e refl
four_fail false false true d p q r s e = clash e refl
four_fail false false false true p q r s e = clash e refl
four_fail false false false false p q r s e = (refl, refl, refl, refl)

pub or_four : (a b c d : Bool) → (a || (b || (c || d))) ≡ false → (a ≡ false) × (b ≡ false) × (c ≡ false) × (d ≡ false)
or_four a b c d e =
    let (p, e₁) = or_none a (b || (c || d)) e in
    let (q, e₂) = or_none b (c || d) e₁ in
    let (r, s) = or_none c d e₂ in
    (p, q, r, s)

means : (N : Network) → accepted N ≡ true → Accepted N
means N e =
    let (large, heavy, beyond, again) = four_fail _ _ _ _ TooLarge Overweight OutOfRange Repeated e in
    let (l, i, g, o) = or_four (ltb max_leaves (leaf_count N)) (ltb max_indices (index_count N)) _ (ltb max_outputs (length N.outputs)) large in
    let (sl, so) = or_none (anyb (any_out_of_range (index_count N)) N.leaves) (any_out_of_range (index_count N) N.outputs) beyond in
    let (rl, ro) = or_none (anyb repeats N.leaves) (repeats N.outputs) again in
    record {
      few_leaves = ltb-false max_leaves (leaf_count N) l;
      few_indices = ltb-false max_indices (index_count N) i;
      few_legs = λ k b. ltb-false max_legs (length (legs N k)) (none_at (λ x. ltb max_legs (length x)) [] N.leaves g k b);
      few_outputs = ltb-false max_outputs (length N.outputs) o;
      weights_fit = λ j. by_cases (ltb j (index_count N))
          (λ b. ltb-false max_weight (weight N j) (none_at (λ w. ltb max_weight w) 0 N.weights heavy j (ltb-true j (index_count N) b)))
          (λ b. rw (get_or-eq_default N.weights 0 (ltb-false j (index_count N) b)) (omega arith));
      in_range = λ k j b m. in_range (index_count N) (legs N k) (none_at (any_out_of_range (index_count N)) [] N.leaves sl k b) j m;
      outputs_in_range = in_range (index_count N) N.outputs so;
      once = λ k j b. once (legs N k) (none_at repeats [] N.leaves rl k b) j;
      outputs_once = once N.outputs ro;
    }

test : (N : Network) → Accepted N → accepted N ≡ true
test N a =
    rw (
      le-ltb max_leaves (leaf_count N) a.few_leaves,
      le-ltb max_indices (index_count N) a.few_indices,
      at_none (λ x. ltb max_legs (length x)) [] N.leaves (λ k b. le-ltb max_legs (length (legs N k)) (a.few_legs k b)),
      le-ltb max_outputs (length N.outputs) a.few_outputs,
      at_none (λ w. ltb max_weight w) 0 N.weights (λ j b. le-ltb max_weight (weight N j) (a.weights_fit j)),
      at_none (any_out_of_range (index_count N)) [] N.leaves (λ k b. none_out_of_range (index_count N) (legs N k) (λ j m. a.in_range k j b m)),
      none_out_of_range (index_count N) N.outputs a.outputs_in_range,
      at_none repeats [] N.leaves (λ k b. no_repeats (legs N k) (λ j. a.once k j b)),
      no_repeats N.outputs a.outputs_once,
    )

pub accepted_means : AcceptedMeans
accepted_means N = (means N, test N)

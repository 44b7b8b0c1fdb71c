-- The local indices that the code lists are the definition's, and so are the sets and weights in their numbers. Assumes nothing.
use Rattle.std.specs.Prelude.{Bool, true, false, not, ◌&&◌, ◌||◌, cond, List, ◌++◌, ◌≡◌, ltb, length, get_or, drop}
use Rattle.std.proofs.Math.Bool.{and_comm, or-false, or_assoc}
use Rattle.std.proofs.Common.{append-nil, ◌∙◌, ltb-true}
use Rattle.std.proofs.Math.Path.{refl, sym, ap, ap₂}
use mathlib.Mathlib.Data.Bool.Basic.{eq-false_of_not-eq-true}
use Prim.Native.Nat.{ℕ, zero, suc, ◌+◌, ◌-◌, ◌≤◌, ◌<◌}
use native.Mathlib.Omega.{arith}
use Rattle.std.proofs.Math.ListN.{get_or-append}
use Rattle.std.proofs.lemmas.List.Edits.{sets-eq, sets as put_at}
use Rattle.spec.specs.Lists.{memb, anyb, keep, from, range}
use Rattle.spec.specs.Network.{Network, index_count, weight}
use Rattle.spec.specs.Tree.{Tree}
use Rattle.spec.specs.Price.{lists}
use Rattle.spec.specs.Calls.{flag_at}
use Rattle.spec.specs.Improve.{Front, member}
use Rattle.laws.specs.Booleans.{by_cases, and_left, and_right}
use Rattle.laws.specs.ListLaws.{keep_ext, keep_none_from, memb-keep, any_member, from_memb, kept_few, memb_at}
use Rattle.slots.specs.Slots.{held}
use Rattle.slots.specs.Rising.{keep-add}
use Rattle.locals.specs.Locals.{member_have, local_test, local_weight, LocalSets}
use Rattle.locals.specs.Transfer.{is_unsliced, locals_of, InLocal}

-- the unsliced indices that one of the m members lists, rising, as the slots have these
unfoldable pub locals_in : List ℕ → List ℕ → ℕ → List ℕ → List ℕ
locals_in sets members m flags = keep (λ j. member_have sets 4 members m j && not (flag_at flags j)) (range 256)

-- ---- lists ----

-- from M on nothing passes
keep_cut : (p q : ℕ → Bool) (n M : ℕ) → M ≤ n → ((j : ℕ) → j < M → p j ≡ q j) → ((j : ℕ) → M ≤ j → j < n → p j ≡ false)
    → keep p (range n) ≡ keep q (range M)
keep_cut p q n M h e f =
    let z : n ≡ M + (n - M) = omega arith in
    ap (λ k. keep p (range k)) z
    ∙ keep-add p 0 M (n - M)
    ∙ ap₂ (λ x y. x ++ y) (keep_ext p q M e) (keep_none_from p (0 + M) (n - M) (λ j a b. f j (omega arith) (omega arith)))
    ∙ append-nil (keep q (range M))

any_end : (f : ℕ → Bool) (k m : ℕ) → anyb f (from k (suc m)) ≡ (anyb f (from k m) || f (k + m))
any_end f k zero = or-false (f k) ∙ ap f (let z : k ≡ k + 0 = omega arith in z)
any_end f k (suc m) =
    ap (λ x. f k || x) (any_end f (suc k) m)
    ∙ sym (or_assoc (f k) (anyb f (from (suc k) m)) (f (suc k + m)))
    ∙ ap (λ i. (f k || anyb f (from (suc k) m)) || f i) (let z : suc k + m ≡ k + suc m = omega arith in z)

-- what stands at the front of a list that a shorter one was written to
pub put_at_lem : (old l : List ℕ) (i : ℕ) → length l ≤ length old → i < length l → get_or (put_at old 0 l) i 0 ≡ get_or l i 0
put_at_lem old l i h b =
    ap (λ x. get_or x i 0) (sets-eq l old 0 (omega arith)) ∙ get_or-append l (drop (0 + length l) old) 0 i b

pub locals_few : (sets members : List ℕ) (m : ℕ) (flags : List ℕ) → length (locals_in sets members m flags) ≤ 256
unfolding locals_in
locals_few sets members m flags = kept_few (λ j. member_have sets 4 members m j && not (flag_at flags j)) 256

-- ---- the members' sets ----

module _ (N : Network) (flags : List ℕ) (s : Tree) (fr : Front) (sets members : List ℕ)
    (indices : index_count N ≤ 256)
    (has : (p j : ℕ) → p < length fr.members → j < 256 → held sets 4 (get_or members p 0) j ≡ memb j (lists N (member fr.members p)))
    (ranged : (p j : ℕ) → memb j (lists N (member fr.members p)) ≡ true → j < index_count N)
  where
    have_any : (m j : ℕ) → m ≤ length fr.members → j < 256 → member_have sets 4 members m j ≡ anyb (λ p. memb j (lists N (member fr.members p))) (range m)
    unfolding member_have
    have_any zero j h b = refl
    have_any (suc m) j h b =
        ap₂ (λ x y. x || y) (have_any m j (omega arith) b) (has m j (omega arith) b)
        ∙ ap (λ i. anyb (λ p. memb j (lists N (member fr.members p))) (range m) || memb j (lists N (member fr.members i))) (let z : m ≡ 0 + m = omega arith in z)
        ∙ sym (any_end (λ p. memb j (lists N (member fr.members p))) 0 m)

    abbrev passes : ℕ → Bool
    passes j = member_have sets 4 members (length fr.members) j && not (flag_at flags j)

    passes_is : (j : ℕ) → j < 256 → passes j ≡ is_unsliced N (flag_at flags) s fr j
    passes_is j b = ap (λ x. x && not (flag_at flags j)) (have_any (length fr.members) j (omega arith) b) ∙ and_comm (anyb (λ p. memb j (lists N (member fr.members p))) (range (length fr.members))) (not (flag_at flags j))

    beyond : (j : ℕ) → index_count N ≤ j → j < 256 → passes j ≡ false
    beyond j h b =
        eq-false_of_not-eq-true (λ e.
        any_member (λ p. memb j (lists N (member fr.members p))) (range (length fr.members))
        (sym (have_any (length fr.members) j (omega arith) b) ∙ and_left (member_have sets 4 members (length fr.members) j) _ e)
        (λ p k q. omega (arith, ranged p j q)))

    -- THE LOCAL INDICES ARE THE DEFINITION'S
    pub locals_same : locals_in sets members (length fr.members) flags ≡ locals_of N (flag_at flags) s fr
    unfolding locals_in
    locals_same = keep_cut passes (is_unsliced N (flag_at flags) s fr) 256 (index_count N) indices (λ j b. passes_is j (omega arith)) beyond

    abbrev L : List ℕ
    L = locals_of N (flag_at flags) s fr

    pub in_range : (i : ℕ) → i < length L → get_or L i 0 < index_count N
    in_range i h =
        omega (
          arith,
          from_memb (get_or L i 0) 0 (index_count N)
              (and_right (is_unsliced N (flag_at flags) s fr (get_or L i 0)) _
              (sym (memb-keep (get_or L i 0) (is_unsliced N (flag_at flags) s fr) (range (index_count N))) ∙ memb_at L i h)),
        )

    -- the words have the sets in local numbers: v is the node, c how many indices are local
    module _ (v c : ℕ) (root_has : (j : ℕ) → j < 256 → held sets 4 v j ≡ memb j (lists N s))
        (weights local wt : List ℕ) (united : List (List ℕ)) (weighs : (j : ℕ) → j < index_count N → get_or weights j 0 ≡ weight N j)
        (count : c ≡ length L) (at : (i : ℕ) → i < c → get_or local i 0 ≡ get_or L i 0) (few : c ≤ 128)
      where
        test_is : (x : ℕ) (t : Tree) → ((j : ℕ) → j < 256 → held sets 4 x j ≡ memb j (lists N t)) → (i : ℕ)
            → local_test sets 4 x local c i ≡ (ltb i (length L) && memb (get_or L i 0) (lists N t))
        test_is x t h i =
            by_cases (ltb i c)
            (λ e.
            let b : i < c = ltb-true i c e in
            ap₂ (λ p q. p && q) (ap (ltb i) count)
            (ap (held sets 4 x) (at i b) ∙ h (get_or L i 0) (omega (arith, in_range i (omega arith)))))
            (λ e.
            let f : ltb i (length L) ≡ false = ap (ltb i) (sym count) ∙ e in rw (e, f))

        weight_is : (i : ℕ) → local_weight weights local c i ≡ cond (ltb i (length L)) (weight N (get_or L i 0)) 0
        weight_is i =
            by_cases (ltb i c)
            (λ e.
            let b : i < c = ltb-true i c e in
            ap₂ (λ (p : Bool) (q : ℕ). cond p q 0) (ap (ltb i) count)
            (ap (λ j. get_or weights j 0) (at i b) ∙ weighs (get_or L i 0) (in_range i (omega arith))))
            (λ e.
            let f : ltb i (length L) ≡ false = ap (ltb i) (sym count) ∙ e in rw (e, f))

        pub in_local : LocalSets sets 4 v members (length fr.members) local c united
            → ((i : ℕ) → i < 128 → get_or wt i 0 ≡ local_weight weights local c i) → InLocal N (flag_at flags) s fr united wt
        in_local h w =
            record {
              few = omega arith;
              root = λ i b. h.root i b ∙ test_is v s root_has i;
              each = λ p i a b. h.each p i a b ∙ test_is (get_or members p 0) (member fr.members p) (λ j d. has p j a d) i;
              weights = λ i b. w i b ∙ weight_is i;
            }

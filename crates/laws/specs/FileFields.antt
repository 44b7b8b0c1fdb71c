-- Fields and acceptance: what the conditions on weights, leaves and outputs, each by itself, say of the network. Assumes nothing.
use Rattle.std.specs.Prelude.{◌≡◌, refl, Bool, true, false, not, List, [], ◌∷◌, ℕ, ◌%◌, ◌≤◌, ◌<◌, eqb, ltb, leb, length, Some}
use Rattle.std.proofs.Common.{◌∙◌, arith, ltb-false, le-ltb, leb-false, ne_eqb}
use Rattle.std.proofs.lemmas.Bool.{lt-leb, eqb-false, not-false}
use Rattle.spec.specs.Lists.{memb, anyb}
use Rattle.spec.specs.Members.{All}
use Rattle.spec.specs.Refusal.{Check, first, passes}
use Rattle.spec.specs.Network.{Network, leaf_count, index_count, max_leaves, max_indices, max_legs, max_outputs, repeats, any_out_of_range, network_checks, accepted}
use Rattle.spec.specs.Tree.{valid, pairs_of}
use Rattle.spec.specs.Calls.{tree_check, flags_check}
use Rattle.spec.specs.FileClaims.{LawfulTree, LawfulAsk}
use Rattle.spec.specs.File.{flagged, weights_checks, index_checks, leaf_checks, outputs_checks}
use Rattle.laws.specs.Booleans.{by_cases, clash, or_none, eqb_sym}
use Rattle.laws.specs.MemberLaws.{all_map}

-- no condition holds
abbrev pub Fails : List Check → Type 0
Fails cs = All (λ c. c.holds ≡ false) cs

pub passes_fails : (cs : List Check) → passes (first cs) ≡ true → Fails cs
passes_fails [] e = tt
passes_fails (c ∷ cs) e =
    by_cases c.holds
    (λ h. clash (rw h at e) refl)
    (λ h. (h, passes_fails cs (rw h at e)))

pub fails_passes : (cs : List Check) → Fails cs → passes (first cs) ≡ true
fails_passes [] h = refl
fails_passes (c ∷ cs) h = rw h.0 (fails_passes cs h.1)

-- no member passes a test
module _ {A : Type 0} (p : A → Bool) where
  pub any_none : (l : List A) → anyb p l ≡ false → All (λ x. p x ≡ false) l
  any_none [] e = tt
  any_none (x ∷ l) e = let (f, g) = or_none (p x) (anyb p l) e in (f, any_none l g)

  pub none_any : (l : List A) → All (λ x. p x ≡ false) l → anyb p l ≡ false
  none_any [] h = refl
  none_any (x ∷ l) h = rw (h.0, none_any l h.1)

-- ---- indices, byte by byte ----

memb_apart : (j : ℕ) (l : List ℕ) → All (λ k. eqb k j ≡ false) l → memb j l ≡ false
memb_apart j [] h = refl
memb_apart j (k ∷ l) h = rw (eqb_sym j k, h.0) (memb_apart j l h.1)

apart_memb : (j : ℕ) (l : List ℕ) → memb j l ≡ false → All (λ k. eqb k j ≡ false) l
apart_memb j [] e = tt
apart_memb j (k ∷ l) e = let (f, g) = or_none (eqb j k) (memb j l) e in (eqb_sym k j ∙ f, apart_memb j l g)

-- no index of l is in `before`
abbrev pub Apart : List ℕ → List ℕ → Type 0
Apart before l = All (λ k. memb k before ≡ false) l

pub index_fails : (m : ℕ) (before l : List ℕ) → any_out_of_range m l ≡ false → repeats l ≡ false → Apart before l → Fails (index_checks m before l)
index_fails m before [] s r a = tt
index_fails m before (j ∷ l) s r a =
    let (s₀, s₁) = or_none (leb m j) (any_out_of_range m l) s in
    let (r₀, r₁) = or_none (memb j l) (repeats l) r in
    (s₀, (a.0, index_fails m (j ∷ before) l s₁ r₁ (both l (apart_memb j l r₀) a.1)))
  where
    both : (x : List ℕ) → All (λ k. eqb k j ≡ false) x → Apart before x → Apart (j ∷ before) x
    both [] e f = tt
    both (k ∷ x) e f = (rw e.0 f.0, both x e.1 f.1)

pub fails_index : (m : ℕ) (before l : List ℕ) → Fails (index_checks m before l) → (any_out_of_range m l ≡ false) × (repeats l ≡ false) × Apart before l
fails_index m before [] h = (refl, refl, tt)
fails_index m before (j ∷ l) h =
    let (s, r, a) = fails_index m (j ∷ before) l h.1.1 in
    let q : memb j l ≡ false = memb_apart j l (all_map (λ k. memb k (j ∷ before) ≡ false) (λ k. eqb k j ≡ false) l (λ k e. (or_none (eqb k j) (memb k before) e).0) a) in
    (rw h.0 s, rw q r, (h.1.0, all_map (λ k. memb k (j ∷ before) ≡ false) (λ k. memb k before ≡ false) l (λ k e. (or_none (eqb k j) (memb k before) e).1) a))

pub apart_nil : (l : List ℕ) → Apart [] l
apart_nil [] = tt
apart_nil (k ∷ l) = (refl, apart_nil l)

-- ---- networks ----

-- at most `most` indices, each below m, none twice
abbrev pub Named : ℕ → ℕ → List ℕ → Type 0
Named most m l = (ltb most (length l) ≡ false) × (any_out_of_range m l ≡ false) × (repeats l ≡ false)

-- the weights, and the leaves so far, are as they must be
pub record Begun (w : List ℕ) (ls : List (List ℕ)) : Type 0 where
  pub weights : Fails (weights_checks w)
  pub few : length ls ≤ max_leaves
  pub legs : All (Named max_legs (length w)) ls

-- all leaves pass three tests at once
three_tests : {A : Type 0} (p q r : A → Bool) (l : List A) → All (λ x. (p x ≡ false) × (q x ≡ false) × (r x ≡ false)) l
    → (anyb p l ≡ false) × (anyb q l ≡ false) × (anyb r l ≡ false)
three_tests p q r l h = (
  none_any p l (all_map _ (λ x. p x ≡ false) l (λ x k. k.0) h),
  none_any q l (all_map _ (λ x. q x ≡ false) l (λ x k. k.1) h),
  none_any r l (all_map _ (λ x. r x ≡ false) l (λ x k. k.2) h),
)

tests_three : {A : Type 0} (p q r : A → Bool) (l : List A) → anyb p l ≡ false → anyb q l ≡ false → anyb r l ≡ false
    → All (λ x. (p x ≡ false) × (q x ≡ false) × (r x ≡ false)) l
tests_three p q r [] e f g = tt
tests_three p q r (x ∷ l) e f g =
    let (e₀, e₁) = or_none (p x) (anyb p l) e in
    let (f₀, f₁) = or_none (q x) (anyb q l) f in
    let (g₀, g₁) = or_none (r x) (anyb r l) g in
    ((e₀, f₀, g₀), tests_three p q r l e₁ f₁ g₁)

-- a network is accepted exactly if its weights and leaves, and its outputs, are as they must be
pub accepted_parts : (N : Network) → accepted N ≡ true → Begun N.weights N.leaves × Named max_outputs (index_count N) N.outputs
accepted_parts N e =
    let (large, (heavy, (range, (again, _)))) = passes_fails (network_checks false N) e in
    let (l, l₁) = or_none (ltb max_leaves (leaf_count N)) _ large in
    let (i, l₂) = or_none (ltb max_indices (index_count N)) _ l₁ in
    let (g, o) = or_none (anyb (λ x. ltb max_legs (length x)) N.leaves) (ltb max_outputs (length N.outputs)) l₂ in
    let (s, s₁) = or_none (anyb (any_out_of_range (index_count N)) N.leaves) (any_out_of_range (index_count N) N.outputs) range in
    let (t, t₁) = or_none (anyb repeats N.leaves) (repeats N.outputs) again in (
      record {
        weights = (i, (heavy, tt));
        few = ltb-false max_leaves (leaf_count N) l;
        legs = tests_three (λ x. ltb max_legs (length x)) (any_out_of_range (index_count N)) repeats N.leaves g s t;
      },
      (o, s₁, t₁),
    )

pub parts_accepted : (N : Network) → Begun N.weights N.leaves → Named max_outputs (index_count N) N.outputs → accepted N ≡ true
parts_accepted N b o =
    let (g, s, r) = three_tests (λ l. ltb max_legs (length l)) (any_out_of_range (index_count N)) repeats N.leaves b.legs in
    rw (
      le-ltb max_leaves (leaf_count N) b.few,
      b.weights.0,
      g,
      o.0,
      b.weights.1.0,
      s,
      o.1,
      r,
      o.2,
    )

-- a field of a leaf, and of the outputs, is taken exactly if its indices are so, and for a leaf there is room
pub leaf_fails : (N : Network) (l : List ℕ) → leaf_count N < max_leaves → Named max_legs (index_count N) l → Fails (leaf_checks N l)
leaf_fails N l h (f, s, r) = (rw (f, lt-leb max_leaves (leaf_count N) h), index_fails (index_count N) [] l s r (apart_nil l))

pub fails_leaf : (N : Network) (l : List ℕ) → Fails (leaf_checks N l) → (leaf_count N < max_leaves) × Named max_legs (index_count N) l
fails_leaf N l h =
    let (f, g) = or_none (ltb max_legs (length l)) (leb max_leaves (leaf_count N)) h.0 in
    let (s, r, a) = fails_index (index_count N) [] l h.1 in
    (leb-false max_leaves (leaf_count N) g, (f, s, r))

pub outputs_fails : (N : Network) (l : List ℕ) → Named max_outputs (index_count N) l → Fails (outputs_checks N l)
outputs_fails N l (f, s, r) = (f, index_fails (index_count N) [] l s r (apart_nil l))

pub fails_outputs : (N : Network) (l : List ℕ) → Fails (outputs_checks N l) → Named max_outputs (index_count N) l
fails_outputs N l h = let (s, r, a) = fails_index (index_count N) [] l h.1 in (h.0, s, r)

-- ---- tree and flags ----

pub tree_fails : (N : Network) (kids : List ℕ) → LawfulTree N (Some kids) → Fails (tree_check N kids ∷ [])
tree_fails N kids (e, v) = (rw (ne_eqb (length kids % 2) 1 (λ q. omega arith), v), tt)

pub fails_tree : (N : Network) (kids : List ℕ) → Fails (tree_check N kids ∷ []) → LawfulTree N (Some kids)
fails_tree N kids h =
    let (e, v) = or_none (eqb (length kids % 2) 1) (not (valid (leaf_count N) (pairs_of kids))) h.0 in
    let q : length kids % 2 ≡ 1 → ⊥ = eqb-false (length kids % 2) 1 e in
    (omega (arith, q), not-false (valid (leaf_count N) (pairs_of kids)) v)

pub flags_fails : (N : Network) (l : List ℕ) → LawfulAsk N (flagged l) → Fails (flags_check N l ∷ [])
flags_fails N l (h, b) =
    (rw (le-ltb (index_count N) (length l) h, none_any (λ x. ltb 1 x) l (all_map (λ x. x ≤ 1) (λ x. ltb 1 x ≡ false) l (λ x k. le-ltb 1 x k) b)), tt)

pub fails_flags : (N : Network) (l : List ℕ) → Fails (flags_check N l ∷ []) → LawfulAsk N (flagged l)
fails_flags N l h =
    let (e, b) = or_none (ltb (index_count N) (length l)) (anyb (λ x. ltb 1 x) l) h.0 in
    (ltb-false (index_count N) (length l) e, all_map (λ x. ltb 1 x ≡ false) (λ x. x ≤ 1) l (λ x k. ltb-false 1 x k) (any_none (λ x. ltb 1 x) l b))

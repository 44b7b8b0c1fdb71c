-- The loops that make the set of flagged indices, and the union of the members' sets. Assumes nothing.
use Rattle.std.specs.Prelude.{Bool, true, false, not, ◌&&◌, ◌||◌, List, ◌≡◌, ℕ, ◌+◌, eqb, ltb, length, get_or}
use Rattle.std.proofs.Math.Bool.{or-false, and-false}
use Rattle.std.proofs.Math.Path.{sym}
use Rattle.std.proofs.Common.{ap, ◌∙◌, add-one, arith, eq-eqb, ne_eqb, lt-ltb, le-ltb, eqb-true, ltb-true, ltb-false}
use Rattle.std.proofs.Math.ListN.{get_or-eq_default}
use Rattle.std.proofs.lemmas.Bool.{eqb-false}
use Rattle.spec.specs.Calls.{flag_at}
use Rattle.laws.specs.Booleans.{by_cases, ltb_next}
use Rattle.slots.specs.Slots.{held, with_set, with_set_ext, with_set_again, with_set_then}
use Rattle.locals.specs.Locals.{member_have}

-- ---- a set that a test gives, one index after the other ----

abbrev below : (ℕ → Bool) → ℕ → ℕ → Bool
below t k j = ltb j k && t j

-- the test's indices below k are in slot s, and no other
abbrev pub Tested : List ℕ → ℕ → ℕ → (ℕ → Bool) → ℕ → List ℕ → Type 0
Tested ws W s t k now = now ≡ with_set ws W s (below t k)

module _ (ws : List ℕ) (W s : ℕ) (t : ℕ → Bool) where
  step : (k j : ℕ) → t k ≡ true → (below t k j || eqb j k) ≡ below t (k + 1) j
  step k j h =
      by_cases (eqb j k)
      (λ e. let z : j ≡ k = eqb-true j k e in rw (e, lt-ltb j (k + 1) (omega arith)) (or_true (below t k j) (t j) (ap t z ∙ h)))
      (λ e. let f : j ≡ k → ⊥ = eqb-false j k e in rw e (or-false (below t k j) ∙ ap (λ x. x && t j) (ltb_next j k f)))
    where
      or_true : (a b : Bool) → b ≡ true → (a || true) ≡ b
      or_true true b h = sym h
      or_true false b h = sym h

  still : (k j : ℕ) → t k ≡ false → below t k j ≡ below t (k + 1) j
  still k j h =
      by_cases (eqb j k)
      (λ e. let z : j ≡ k = eqb-true j k e in
      let u : t j ≡ false = ap t z ∙ h in rw u (and-false (ltb j k) ∙ sym (and-false (ltb j (k + 1)))))
      (λ e. let f : j ≡ k → ⊥ = eqb-false j k e in
      by_cases (ltb j k)
      (λ q. rw (q, lt-ltb j (k + 1) (omega (arith, ltb-true j k q))))
      (λ q. rw (q, le-ltb j (k + 1) (omega (arith, f, ltb-false j k q)))))

  -- one index more, that passes or not
  pub tested_yes : (k : ℕ) (a b : List ℕ) → t k ≡ true → Tested ws W s t k a → b ≡ with_set a W s (λ j. held a W s j || eqb j k) → Tested ws W s t (k + 1) b
  tested_yes k a b h e f =
      f
      ∙ ap (λ l. with_set l W s (λ j. held l W s j || eqb j k)) e
      ∙ with_set_then ws W s (below t k) (λ j x. x || eqb j k)
      ∙ with_set_ext ws W s _ _ (λ j q. step k j h)

  pub tested_no : (k : ℕ) (a : List ℕ) → t k ≡ false → Tested ws W s t k a → Tested ws W s t (k + 1) a
  tested_no k a h e = e ∙ with_set_ext ws W s _ _ (λ j q. still k j h)

-- from the emptied slot to the end
module _ (ws : List ℕ) (W s : ℕ) (t : ℕ → Bool) (zeros : List ℕ) (e : zeros ≡ with_set ws W s (λ j. false)) where
  again : (p : ℕ → Bool) → with_set zeros W s p ≡ with_set ws W s p
  again p = ap (λ l. with_set l W s p) e ∙ with_set_again ws W s (λ j. false) p

  pub tested_none : Tested zeros W s t 0 zeros
  tested_none = e ∙ with_set_ext ws W s (λ j. false) (below t 0) (λ j h. rw (le-ltb j 0 (omega arith))) ∙ sym (again (below t 0))

  pub tested_end : (k c : ℕ) (a : List ℕ) → k ≡ c → Tested zeros W s t k a → a ≡ with_set ws W s (λ j. ltb j c && t j)
  tested_end k c a h q = q ∙ again (below t k) ∙ ap (λ x. with_set ws W s (below t x)) h

-- ---- flags ----

pub flag_yes : (flags : List ℕ) (j : ℕ) → (get_or flags j 0 ≡ 0 → ⊥) → flag_at flags j ≡ true
flag_yes flags j f = ap not (ne_eqb (get_or flags j 0) 0 f)

pub flag_no : (flags : List ℕ) (j : ℕ) → get_or flags j 0 ≡ 0 → flag_at flags j ≡ false
flag_no flags j z = ap not (eq-eqb (get_or flags j 0) 0 z)

pub flags_all : (ws a : List ℕ) (W s : ℕ) (flags : List ℕ) → a ≡ with_set ws W s (λ j. ltb j (length flags) && flag_at flags j) → a ≡ with_set ws W s (flag_at flags)
flags_all ws a W s flags e =
    e ∙ with_set_ext ws W s _ _ (λ j b.
    by_cases (ltb j (length flags))
    (λ q. rw q)
    (λ q. let z : get_or flags j 0 ≡ 0 = get_or-eq_default flags 0 (ltb-false j (length flags) q) in rw (q, z)))

-- ---- members ----

-- slot 0 has the union of the first p members' slots of `src`
abbrev pub Uniting : List ℕ → ℕ → List ℕ → List ℕ → ℕ → List ℕ → Type 0
Uniting ws W src members p now = now ≡ with_set ws W 0 (member_have src W members p)

pub uniting_next : (ws : List ℕ) (W : ℕ) (src members : List ℕ) (p v : ℕ) (a b : List ℕ) → v ≡ get_or members p 0 → Uniting ws W src members p a
    → b ≡ with_set a W 0 (λ j. held a W 0 j || held src W v j) → Uniting ws W src members (p + 1) b
unfolding member_have
uniting_next ws W src members p v a b ev e f =
    f
    ∙ ap (λ l. with_set l W 0 (λ j. held l W 0 j || held src W v j)) e
    ∙ with_set_then ws W 0 (member_have src W members p) (λ j x. x || held src W v j)
    ∙ with_set_ext ws W 0 _ (member_have src W members (p + 1)) (λ j q.
    ap (λ x. member_have src W members p j || held src W x j) ev ∙ sym (ap (λ k. member_have src W members k j) (add-one p)))

module _ (ws : List ℕ) (W : ℕ) (src members zeros : List ℕ) (e : zeros ≡ with_set ws W 0 (λ j. false)) where
  pub uniting_none : Uniting zeros W src members 0 zeros
  unfolding member_have
  uniting_none = e ∙ sym (ap (λ l. with_set l W 0 (λ j. false)) e ∙ with_set_again ws W 0 (λ j. false) (λ j. false))

  pub uniting_end : (m p : ℕ) (a : List ℕ) → p ≡ m → Uniting zeros W src members p a → a ≡ with_set ws W 0 (member_have src W members m)
  uniting_end m p a z q =
      q
      ∙ ap (λ k. with_set zeros W 0 (member_have src W members k)) z
      ∙ ap (λ l. with_set l W 0 (member_have src W members m)) e
      ∙ with_set_again ws W 0 (λ j. false) (member_have src W members m)

-- Slots that hold the same words, and the search for one. Assumes nothing.
use Rattle.std.specs.Prelude.{◌≡◌, Bool, true, false, ◌||◌, cond, List, ◌∷◌, ℕ, zero, suc, ◌+◌, ◌-◌, ◌*◌, ◌≤◌, ◌<◌, eqb, ltb, get_or, refl, Option, Some, None, IfSome}
use Rattle.std.specs.Option.{is_some}
use Rattle.std.proofs.Math.Decide.{dec_le}
use Rattle.std.proofs.lemmas.Option.{none-some}
use Rattle.std.proofs.Common.{sym, ◌∙◌, ap, ap₂, add-one, lt-ltb, le-ltb}
use Rattle.std.proofs.Math.Bool.{or_assoc}
use native.Mathlib.Omega.{arith}
use Rattle.spec.specs.Lists.{allb, anyb, from, range}
use Rattle.laws.specs.Booleans.{by_cases, or_introl, or_intror}

-- slots s and u hold the same words
unfoldable pub same_words : ℕ → List ℕ → ℕ → ℕ → Bool
same_words w ws s u = allb (λ k. eqb (get_or ws (s * w + k) 0) (get_or ws (u * w + k) 0)) (range w)

-- the first number that passes the test, of k and those after it, m in all; else the one past them
abbrev pub first_from : (ℕ → Bool) → ℕ → ℕ → ℕ
first_from p k zero = k
first_from p k (suc m) = let rest = first_from p (suc k) m in cond (p k) k rest

-- a number, if it is below the end
abbrev pub if_below : ℕ → ℕ → Option ℕ
if_below n k = cond (ltb k n) (Some k) None

below_end : (n k : ℕ) → k < n → if_below n k ≡ Some k
below_end n k h = ap (λ (b : Bool). cond b (Some k) None) (lt-ltb k n h)

not_below : (n k : ℕ) → n ≤ k → if_below n k ≡ None
not_below n k h = ap (λ (b : Bool). cond b (Some k) None) (le-ltb k n h)

abbrev value : Option ℕ → ℕ
value None = 0
value (Some k) = k

below_some : (n k u : ℕ) → Some u ≡ if_below n k → (u ≡ k) × (k < n)
below_some n k u e =
    elim (dec_le n k) [
      | yes h ↦ absurd (none-some u (sym (e ∙ not_below n k h)))
      | no h ↦ (let h : k < n = omega arith in (ap value (e ∙ below_end n k h), h))
    ]

below_none : (n k : ℕ) → None ≡ if_below n k → n ≤ k
below_none n k e =
    elim (dec_le n k) [
      | yes h ↦ h
      | no h ↦ absurd (none-some k (e ∙ below_end n k (omega arith)))
    ]

-- each of the slots from s on is like one of those from t on, of `count` each
unfoldable pub all_found : ℕ → List ℕ → ℕ → ℕ → ℕ → Bool
all_found w ws s t count = allb (λ v. anyb (same_words w ws v) (from t count)) (from s count)

-- ---- a test of all numbers from k on, below n ----

module _ (p : ℕ → Bool) where
  step_from : (k n : ℕ) → k < n → from k (n - k) ≡ k ∷ from (k + 1) (n - (k + 1))
  step_from k n h =
      let e : n - k ≡ suc (n - (k + 1)) = omega arith in
      ap (from k) e ∙ ap (λ (i : ℕ). k ∷ from i (n - (k + 1))) (sym (add-one k))

  pub all_next : (k n : ℕ) → k < n → p k ≡ true → allb p (from k (n - k)) ≡ allb p (from (k + 1) (n - (k + 1)))
  all_next k n h e = ap (allb p) (step_from k n h) ∙ rw e

  pub all_fails : (k n : ℕ) → k < n → p k ≡ false → allb p (from k (n - k)) ≡ false
  all_fails k n h e = ap (allb p) (step_from k n h) ∙ rw e

  pub all_ends : (k n : ℕ) → n ≤ k → allb p (from k (n - k)) ≡ true
  all_ends k n h = let e : n - k ≡ 0 = omega arith in ap (λ (m : ℕ). allb p (from k m)) e

  -- ---- the first that passes ----

  first_step : (k m : ℕ) → first_from p k (suc m) ≡ cond (p k) k (first_from p (k + 1) m)
  first_step k m = ap (λ (i : ℕ). cond (p k) k (first_from p i m)) (sym (add-one k))

  pub first_next : (k n : ℕ) → k < n → p k ≡ false → first_from p k (n - k) ≡ first_from p (k + 1) (n - (k + 1))
  first_next k n h e = let q : n - k ≡ suc (n - (k + 1)) = omega arith in ap (first_from p k) q ∙ first_step k (n - (k + 1)) ∙ rw e

  pub first_here : (k n : ℕ) → k < n → p k ≡ true → first_from p k (n - k) ≡ k
  first_here k n h e = let q : n - k ≡ suc (n - (k + 1)) = omega arith in ap (first_from p k) q ∙ rw e

  pub first_ends : (k n : ℕ) → n ≤ k → first_from p k (n - k) ≡ k
  first_ends k n h = let e : n - k ≡ 0 = omega arith in ap (first_from p k) e

  pub first_ge : (k m : ℕ) → k ≤ first_from p k m
  first_ge k zero = omega arith
  first_ge k (suc m) =
      by_cases (p k) (λ e. rw e (omega arith)) (λ e. rw e (omega (arith, first_ge (suc k) m)))

  -- it is below the end just if one passes
  pub first_any : (k m : ℕ) → ltb (first_from p k m) (k + m) ≡ anyb p (from k m)
  first_any k zero = le-ltb k (k + 0) (omega arith)
  first_any k (suc m) =
      by_cases (p k)
      (λ e. rw e (lt-ltb k (k + suc m) (omega arith)))
      (λ e. rw e (ap (ltb (first_from p (suc k) m)) (let q : k + suc m ≡ suc k + m = omega arith in q) ∙ first_any (suc k) m))

  any_split : (k a b : ℕ) → anyb p (from k (a + b)) ≡ (anyb p (from k a) || anyb p (from (k + a) b))
  any_split k zero b =
      let e : 0 + b ≡ b = omega arith in
      let f : k + 0 ≡ k = omega arith in
      rw (e, f)
  any_split k (suc a) b =
      let e : suc a + b ≡ suc (a + b) = omega arith in
      let f : k + suc a ≡ suc k + a = omega arith in
      ap (λ (m : ℕ). anyb p (from k m)) e
      ∙ ap (λ (x : Bool). p k || x) (any_split (suc k) a b)
      ∙ sym (or_assoc (p k) (anyb p (from (suc k) a)) (anyb p (from (suc k + a) b)))
      ∙ ap (λ (m : ℕ). p k || anyb p (from (suc k) a) || anyb p (from m b)) (sym f)

  -- ---- those from the hint on first, then those before it ----

  module _ (lo hint hi : ℕ) (a : lo ≤ hint) (b : hint ≤ hi) where
    whole : anyb p (from lo (hi - lo)) ≡ (anyb p (from lo (hint - lo)) || anyb p (from hint (hi - hint)))
    whole =
        let e : hi - lo ≡ hint - lo + (hi - hint) = omega arith in
        let f : lo + (hint - lo) ≡ hint = omega arith in
        ap (λ (m : ℕ). anyb p (from lo m)) e ∙ any_split lo (hint - lo) (hi - hint)
        ∙ ap (λ (m : ℕ). anyb p (from lo (hint - lo)) || anyb p (from m (hi - hint))) f

    part : (lo hi u : ℕ) → lo ≤ hi → u ≡ first_from p lo (hi - lo) → anyb p (from lo (hi - lo)) ≡ ltb u hi
    part lo hi u h e =
        let f : lo + (hi - lo) ≡ hi = omega arith in
        sym (first_any lo (hi - lo)) ∙ ap₂ (λ (x y : ℕ). ltb x y) (sym e) f

    pub after_hint : (u : ℕ) → u ≡ first_from p hint (hi - hint) → u < hi → (u ≤ hi) × (lo ≤ u) × (ltb u hi ≡ anyb p (from lo (hi - lo)))
    after_hint u e h = (
      omega arith,
      omega (arith, first_ge hint (hi - hint)),
      sym (whole ∙ or_intror (anyb p (from lo (hint - lo))) (anyb p (from hint (hi - hint))) (part hint hi u b e ∙ lt-ltb u hi h) ∙ sym (lt-ltb u hi h)),
    )

    pub before_hint : (u v : ℕ) → u ≡ first_from p hint (hi - hint) → hi ≤ u → v ≡ first_from p lo (hint - lo) → v < hint
        → (v ≤ hi) × (lo ≤ v) × (ltb v hi ≡ anyb p (from lo (hi - lo)))
    before_hint u v e g f h = (
      omega arith,
      omega (arith, first_ge lo (hint - lo)),
      sym (whole ∙ or_introl (anyb p (from lo (hint - lo))) (anyb p (from hint (hi - hint))) (part lo hint v a f ∙ lt-ltb v hint h)
          ∙ sym (lt-ltb v hi (omega arith))),
    )

    pub nowhere : (u v : ℕ) → u ≡ first_from p hint (hi - hint) → hi ≤ u → v ≡ first_from p lo (hint - lo) → hint ≤ v
        → (hi ≤ hi) × (lo ≤ hi) × (ltb hi hi ≡ anyb p (from lo (hi - lo)))
    nowhere u v e g f h = (
      omega arith,
      omega arith,
      sym (whole ∙ ap₂ (λ (x y : Bool). x || y) (part lo hint v a f ∙ le-ltb v hint h) (part hint hi u b e ∙ le-ltb u hi g)
          ∙ sym (le-ltb hi hi (omega arith))),
    )

    abbrev any : Bool
    any = anyb p (from lo (hi - lo))

    pub some_after : (u : ℕ) → Some u ≡ if_below hi (first_from p hint (hi - hint)) → (true ≡ any) × (lo ≤ u) × (u < hi)
    some_after u q =
        let (e, h) = below_some hi _ u q in
        let (top, low, same) = after_hint u e (omega arith) in
        (sym (lt-ltb u hi (omega arith)) ∙ same, low, omega arith)

    -- what is found before the hint, where none is after it
    pub some_before : (r : Option ℕ) → None ≡ if_below hi (first_from p hint (hi - hint)) → r ≡ if_below hint (first_from p lo (hint - lo))
        → (is_some r ≡ any) × IfSome r (λ u. (lo ≤ u) × (u < hi))
    some_before (Some v) g q =
        let (e, h) = below_some hint _ v q in
        let (top, low, same) = before_hint _ v refl (below_none hi _ g) e (omega arith) in
        (sym (lt-ltb v hi (omega arith)) ∙ same, (low, omega arith))
    some_before None g q =
        let (top, low, same) = nowhere _ _ refl (below_none hi _ g) refl (below_none hint _ q) in
        (sym (le-ltb hi hi (omega arith)) ∙ same, tt)

-- before the first word
pub same_start : (w : ℕ) (ws : List ℕ) (s u : ℕ)
    → same_words w ws s u ≡ allb (λ k. eqb (get_or ws (s * w + k) 0) (get_or ws (u * w + k) 0)) (from 0 (w - 0))
unfolding same_words
same_start w ws s u =
    ap (λ (m : ℕ). allb (λ k. eqb (get_or ws (s * w + k) 0) (get_or ws (u * w + k) 0)) (from 0 m)) (let e : w ≡ w - 0 = omega arith in e)

-- ---- all of them ----

module _ (w : ℕ) (ws : List ℕ) (s t count : ℕ) where
  abbrev one : ℕ → Bool
  one v = anyb (same_words w ws v) (from t count)

  -- the slots from s + k on
  abbrev pub rest_found : ℕ → Bool
  rest_found k = allb one (from (s + k) (s + count - (s + k)))

  pub found_start : all_found w ws s t count ≡ rest_found 0
  unfolding all_found
  found_start =
      let e : s + 0 ≡ s = omega arith in
      let f : s + count - s ≡ count = omega arith in
      rw (e, f)

  module _ (k : ℕ) (b : Bool) (h : k < count) (e : b ≡ anyb (same_words w ws (s + k)) (from t (t + count - t))) where
    found : b ≡ one (s + k)
    found = e ∙ ap (λ (m : ℕ). anyb (same_words w ws (s + k)) (from t m)) (let f : t + count - t ≡ count = omega arith in f)

    pub found_next : b ≡ true → rest_found k ≡ rest_found (k + 1)
    found_next q =
        all_next one (s + k) (s + count) (omega arith) (sym found ∙ q)
        ∙ ap (λ (i : ℕ). allb one (from i (s + count - i))) (let f : s + k + 1 ≡ s + (k + 1) = omega arith in f)

    pub found_fails : b ≡ false → rest_found k ≡ false
    found_fails q = all_fails one (s + k) (s + count) (omega arith) (sym found ∙ q)

  pub found_ends : (k : ℕ) → count ≤ k → rest_found k ≡ true
  found_ends k h = all_ends one (s + k) (s + count) (omega arith)

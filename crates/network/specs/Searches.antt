-- Searches of a list, place by place: the start, a turn, a find, and the end. Assumes nothing.
use Rattle.std.specs.Prelude.{◌≡◌, refl, Bool, true, false, ◌||◌, List, ℕ, ◌+◌, ◌≤◌, ◌<◌, length, get_or, drop}
use Rattle.std.proofs.Common.{sym, ap, ◌∙◌, arith, drop_of_length-le, eq-eqb, ne_eqb}
use Rattle.spec.specs.Lists.{memb, anyb}
use Rattle.spec.specs.Network.{repeats}
use Rattle.cells.specs.Cells.{drop_here}

-- ---- does a member pass a test ----

-- none before place i does
pub record NoneBefore {A : Type 0} (p : A → Bool) (l : List A) (i : ℕ) : Type 0 where
  pub within : i ≤ length l
  pub same : anyb p l ≡ anyb p (drop i l)

module _ {A : Type 0} {p : A → Bool} {l : List A} where
  pub any_start : NoneBefore p l 0
  any_start = record { within = omega arith; same = refl }

  here_and_after : {i : ℕ} {b : Bool} → NoneBefore p l i → (d : A) → i < length l → p (get_or l i d) ≡ b → anyb p l ≡ (b || anyb p (drop (i + 1) l))
  here_and_after {i} s d h e = s.same ∙ ap (anyb p) (drop_here l i d h) ∙ ap (λ (b : Bool). b || anyb p (drop (i + 1) l)) e

  pub any_next : {i : ℕ} → NoneBefore p l i → (d : A) → i < length l → p (get_or l i d) ≡ false → NoneBefore p l (i + 1)
  any_next s d h e = record { within = omega arith; same = here_and_after s d h e }

  pub any_found : {i : ℕ} → NoneBefore p l i → (d : A) → i < length l → p (get_or l i d) ≡ true → true ≡ anyb p l
  any_found s d h e = sym (here_and_after s d h e)

  pub any_end : {i : ℕ} → NoneBefore p l i → length l ≤ i → false ≡ anyb p l
  any_end s h = sym (s.same ∙ ap (anyb p) (drop_of_length-le l h))

-- ---- is a number there ----

-- x, which stands at place i, does not stand between there and place j
pub record NotBetween (l : List ℕ) (i j x : ℕ) : Type 0 where
  pub place : i < length l
  pub stands : x ≡ get_or l i 0
  pub within : j ≤ length l
  pub same : memb x (drop (i + 1) l) ≡ memb x (drop j l)

module _ {l : List ℕ} {i : ℕ} where
  pub memb_start : i < length l → NotBetween l i (i + 1) (get_or l i 0)
  memb_start h = record { place = h; stands = refl; within = omega arith; same = refl }

  pub memb_next : {j x : ℕ} → NotBetween l i j x → j < length l → (get_or l j 0 ≡ x → ⊥) → NotBetween l i (j + 1) x
  memb_next {j} {x} s h e =
      let m : memb x (drop (i + 1) l) ≡ memb x (drop (j + 1) l)
      = s.same ∙ ap (memb x) (drop_here l j 0 h) ∙ ap (λ (b : Bool). b || memb x (drop (j + 1) l)) (ne_eqb x (get_or l j 0) (λ q. e (sym q))) in
      record { place = s.place; stands = s.stands; within = omega arith; same = m }

  -- the number at i stands at j too, or nowhere after i
  again : {j x : ℕ} → NotBetween l i j x → j < length l → get_or l j 0 ≡ x → memb (get_or l i 0) (drop (i + 1) l) ≡ true
  again {j} {x} s h e =
      ap (λ (y : ℕ). memb y (drop (i + 1) l)) (sym s.stands)
      ∙ s.same
      ∙ ap (memb x) (drop_here l j 0 h)
      ∙ ap (λ (b : Bool). b || memb x (drop (j + 1) l)) (eq-eqb x (get_or l j 0) (sym e))

  nowhere : {j x : ℕ} → NotBetween l i j x → length l ≤ j → memb (get_or l i 0) (drop (i + 1) l) ≡ false
  nowhere {j} {x} s h = ap (λ (y : ℕ). memb y (drop (i + 1) l)) (sym s.stands) ∙ s.same ∙ ap (memb x) (drop_of_length-le l h)

-- ---- is a number there twice ----

-- none that stands before place i stands again
pub record OnceBefore (l : List ℕ) (i : ℕ) : Type 0 where
  pub within : i ≤ length l
  pub same : repeats l ≡ repeats (drop i l)

module _ {l : List ℕ} where
  pub repeats_start : OnceBefore l 0
  repeats_start = record { within = omega arith; same = refl }

  first_and_rest : {i : ℕ} {b : Bool} → OnceBefore l i → i < length l → memb (get_or l i 0) (drop (i + 1) l) ≡ b → repeats l ≡ (b || repeats (drop (i + 1) l))
  first_and_rest {i} s h e = s.same ∙ ap repeats (drop_here l i 0 h) ∙ ap (λ (b : Bool). b || repeats (drop (i + 1) l)) e

  pub repeats_next : {i j x : ℕ} → OnceBefore l i → NotBetween l i j x → length l ≤ j → OnceBefore l (i + 1)
  repeats_next s t h = record { within = omega (arith, t.place); same = first_and_rest s t.place (nowhere t h) }

  pub repeats_found : {i j x : ℕ} → OnceBefore l i → NotBetween l i j x → j < length l → get_or l j 0 ≡ x → true ≡ repeats l
  repeats_found s t h e = sym (first_and_rest s t.place (again t h e))

  pub repeats_end : {i : ℕ} → OnceBefore l i → length l ≤ i → false ≡ repeats l
  repeats_end s h = sym (s.same ∙ ap repeats (drop_of_length-le l h))

-- Counts of indices up to 2, leaf by leaf, and what they say of indices that just one leaf names. Assumes nothing.
use Rattle.std.specs.Prelude.{Bool, true, false, ◌&&◌, cond, ◌⊎◌, ◌≡◌, refl, ℕ, zero, suc, ◌+◌, ◌≤◌, ◌<◌, length, get_or, set, take, drop}
use Rattle.std.proofs.Math.Bool.{not}
use mathlib.Core.List.{List, [], ◌∷◌, map}
use Rattle.std.proofs.Common.{inl, inr, ⊎_elim, sym, ◌∙◌, subst, length-set, drop_of_length-le, get_or-set_same, get_or-set_other, ne_eqb, eqb-true}
use Rattle.std.proofs.Math.Path.{ap, ap₂}
use native.Mathlib.Omega.{arith}
use Rattle.std.proofs.Math.Dec.{eqb}
use Rattle.std.proofs.lemmas.Bool.{eqb-false}
use Rattle.spec.specs.Lists.{memb, keep, anyb, count, sum_of, from, range}
use Rattle.spec.specs.Network.{Network, leaf_count, legs}
use Rattle.spec.specs.Layout.{firsts, row_at, network_of}
use Rattle.spec.specs.Memory.{filled}
use Rattle.spec.specs.Calls as calls
use Rattle.laws.specs.Booleans.{by_cases}
use Rattle.laws.specs.ListLaws.{any_ext, keep_ext, count_memb, count_not_memb, any_map}
use Rattle.laws.specs.LayoutLaws.{map_range_at}
use Rattle.cells.specs.Cells.{filled_length, filled_all, drop_here}
use Rattle.network.specs.Checks.{leaves_of, rows_length}
use Rattle.network.specs.Layouts.{firsts-take, layout_leaf_count, layout_index_count, layout_legs, layout_outputs}

abbrev pub one_more : ℕ → ℕ
one_more x = cond (eqb x 0) 1 2

-- a row counted
abbrev pub tallied : List ℕ → List ℕ → List ℕ
tallied t [] = t
tallied t (j ∷ row) = tallied (set t j (one_more (get_or t j 0))) row

abbrev pub tally_rows : List ℕ → List (List ℕ) → List ℕ
tally_rows t [] = t
tally_rows t (row ∷ rows) = tally_rows (tallied t row) rows

-- the counts of a row struck
abbrev pub struck : List ℕ → List ℕ → List ℕ
struck t [] = t
struck t (j ∷ row) = struck (set t j 0) row

-- `dangling` on lists with counts
unfoldable pub dangling_of : (m n o : ℕ) (counts legs outputs : List ℕ) → Bool
dangling_of m n o counts legs outputs =
    anyb (λ j. not (memb j (firsts o outputs)) && eqb (length (keep (λ i. memb j (row_at counts legs i)) (range n))) 1) (range m)

-- ---- turns of the loops ----

module _ (t row e : List ℕ) (k : ℕ) (inv : tallied t (drop k row) ≡ e) where
  pub tally_next : (t' : List ℕ) (j x y : ℕ) → k < length row → j ≡ get_or row k 0 → x ≡ get_or t j 0 → y ≡ one_more x → t' ≡ set t j y
      → tallied t' (drop (k + 1) row) ≡ e
  tally_next t' j x y h p q r s =
      ap (λ u. tallied u (drop (k + 1) row)) (s ∙ ap (set t j) (r ∙ ap one_more q) ∙ ap (λ i. set t i (one_more (get_or t i 0))) p)
      ∙ sym (ap (tallied t) (drop_here row k 0 h))
      ∙ inv

  pub tally_end : length row ≤ k → t ≡ e
  tally_end h = sym (ap (tallied t) (drop_of_length-le row h)) ∙ inv

module _ (t row e : List ℕ) (k : ℕ) (inv : struck t (drop k row) ≡ e) where
  pub strike_next : (t' : List ℕ) (j : ℕ) → k < length row → j ≡ get_or row k 0 → t' ≡ set t j 0 → struck t' (drop (k + 1) row) ≡ e
  strike_next t' j h p s =
      ap (λ u. struck u (drop (k + 1) row)) (s ∙ ap (λ i. set t i 0) p) ∙ sym (ap (struck t) (drop_here row k 0 h)) ∙ inv

  pub strike_end : length row ≤ k → t ≡ e
  strike_end h = sym (ap (struck t) (drop_of_length-le row h)) ∙ inv

module _ (t e : List ℕ) (n i : ℕ) (counts legs : List ℕ) (inv : tally_rows t (drop i (leaves_of n counts legs)) ≡ e) where
  row_here : i < n → get_or (leaves_of n counts legs) i [] ≡ row_at counts legs i
  unfolding leaves_of
  row_here h = map_range_at (row_at counts legs) [] n i h

  pub rows_next : (t' row : List ℕ) → i < n → row ≡ row_at counts legs i → t' ≡ tallied t row → tally_rows t' (drop (i + 1) (leaves_of n counts legs)) ≡ e
  rows_next t' row h p s =
      ap (λ u. tally_rows u (drop (i + 1) (leaves_of n counts legs))) (s ∙ ap (tallied t) (p ∙ sym (row_here h)))
      ∙ sym (ap (tally_rows t) (drop_here (leaves_of n counts legs) i [] (omega (arith, rows_length n counts legs))))
      ∙ inv

  pub rows_end : n ≤ i → t ≡ e
  rows_end h = sym (ap (tally_rows t) (drop_of_length-le (leaves_of n counts legs) {i = i} (omega (arith, rows_length n counts legs)))) ∙ inv

-- ---- what the counts are ----

-- x is k, up to 2
abbrev Capped : ℕ → ℕ → Type 0
Capped x k = (x ≡ k) ⊎ ((x ≡ 2) × (2 ≤ k))

capped_more : (x k : ℕ) → Capped x k → Capped (one_more x) (suc k)
capped_more zero k h = ⊎_elim (λ e. inl (omega arith)) (λ e. absurd (omega arith)) h
capped_more (suc x) k h = rw (ne_eqb (suc x) 0 (λ z. omega arith)) (inr (refl, ⊎_elim (λ e. omega arith) (λ e. omega arith) h))

capped_one : (x k : ℕ) → Capped x k → eqb x 1 ≡ eqb k 1
capped_one x k h = ⊎_elim (λ e. rw e) (λ e. ne_eqb x 1 (λ z. omega arith) ∙ sym (ne_eqb k 1 (λ z. omega arith))) h

tallied_length : (t row : List ℕ) → length (tallied t row) ≡ length t
tallied_length t [] = refl
tallied_length t (j ∷ row) = tallied_length (set t j (one_more (get_or t j 0))) row ∙ length-set t j _

rows_tallied_length : (t : List ℕ) (rows : List (List ℕ)) → length (tally_rows t rows) ≡ length t
rows_tallied_length t [] = refl
rows_tallied_length t (row ∷ rows) = rows_tallied_length (tallied t row) rows ∙ tallied_length t row

pub struck_length : (t row : List ℕ) → length (struck t row) ≡ length t
struck_length t [] = refl
struck_length t (j ∷ row) = struck_length (set t j 0) row ∙ length-set t j 0

module _ (j : ℕ) where
  tallied_at : (t row : List ℕ) (k : ℕ) → j < length t → Capped (get_or t j 0) k → Capped (get_or (tallied t row) j 0) (k + count j row)
  tallied_at t [] k h c = subst (Capped (get_or t j 0)) (let z : k ≡ k + 0 = omega arith in z) c
  tallied_at t (i ∷ row) k h c =
      by_cases (eqb j i)
      (λ q. let e : j ≡ i = eqb-true j i q in
      let g : get_or (set t i (one_more (get_or t i 0))) j 0 ≡ one_more (get_or t j 0) =
      ap (λ x. get_or (set t i (one_more (get_or t i 0))) x 0) e ∙ get_or-set_same t i _ 0 (omega arith) ∙ ap (λ x. one_more (get_or t x 0)) (sym e) in
      rw q (subst (Capped (get_or (tallied (set t i (one_more (get_or t i 0))) row) j 0)) (let z : suc k + count j row ≡ k + suc (count j row) = omega arith in z)
      (tallied_at (set t i (one_more (get_or t i 0))) row (suc k) (omega (arith, length-set t i (one_more (get_or t i 0))))
      (subst (λ x. Capped x (suc k)) (sym g) (capped_more (get_or t j 0) k c)))))
      (λ q. let g : get_or (set t i (one_more (get_or t i 0))) j 0 ≡ get_or t j 0 = get_or-set_other t i j _ 0 (eqb-false j i q) in
      rw q (tallied_at (set t i (one_more (get_or t i 0))) row k (omega (arith, length-set t i (one_more (get_or t i 0)))) (subst (λ x. Capped x k) (sym g) c)))

  rows_at : (t : List ℕ) (rows : List (List ℕ)) (k : ℕ) → j < length t → Capped (get_or t j 0) k
      → Capped (get_or (tally_rows t rows) j 0) (k + sum_of (count j) rows)
  rows_at t [] k h c = subst (Capped (get_or t j 0)) (let z : k ≡ k + 0 = omega arith in z) c
  rows_at t (row ∷ rows) k h c =
      subst (Capped (get_or (tally_rows (tallied t row) rows) j 0)) (let z : k + count j row + sum_of (count j) rows ≡ k + (count j row + sum_of (count j) rows) = omega arith in z)
      (rows_at (tallied t row) rows (k + count j row) (omega (arith, tallied_length t row)) (tallied_at t row k h c))

  struck_at : (t row : List ℕ) → j < length t → get_or (struck t row) j 0 ≡ cond (memb j row) 0 (get_or t j 0)
  struck_at t [] h = refl
  struck_at t (i ∷ row) h =
      struck_at (set t i 0) row (omega (arith, length-set t i 0))
      ∙ by_cases (eqb j i)
      (λ q. let e : j ≡ i = eqb-true j i q in
      let g : get_or (set t i 0) j 0 ≡ 0 = ap (λ x. get_or (set t i 0) x 0) e ∙ get_or-set_same t i 0 0 (omega arith) in
      ap (λ x. cond (memb j row) 0 x) g ∙ same (memb j row) ∙ sym (rw q))
      (λ q. ap (λ x. cond (memb j row) 0 x) (get_or-set_other t i j 0 0 (eqb-false j i q)) ∙ sym (rw q))
    where
      same : (b : Bool) → ◌≡◌ {A = ℕ} (cond b 0 0) 0
      same true = refl
      same false = refl

  -- how many rows have j, where each has it once at most
  rows_count : (f : ℕ → List ℕ) (k n : ℕ) → ((i : ℕ) → k ≤ i → i < k + n → count j (f i) ≤ 1)
      → sum_of (count j) (map f (from k n)) ≡ length (keep (λ i. memb j (f i)) (from k n))
  rows_count f k zero h = refl
  rows_count f k (suc n) h =
      let r : sum_of (count j) (map f (from (suc k) n)) ≡ length (keep (λ i. memb j (f i)) (from (suc k) n)) =
      rows_count f (suc k) n (λ i a b. h i (omega arith) (omega arith)) in
      by_cases (memb j (f k))
      (λ q. rw q (omega (arith, count_memb j (f k) q, h k (omega arith) (omega arith))))
      (λ q. rw q (omega (arith, count_not_memb j (f k) q)))

pub any_firsts : (p : ℕ → Bool) (m : ℕ) (l : List ℕ) → m ≤ length l → anyb p (take m l) ≡ anyb (λ j. p (get_or l j 0)) (range m)
unfolding firsts
any_firsts p m l h = sym (ap (anyb p) (firsts-take m l h)) ∙ any_map p (λ k. get_or l k 0) (range m)

one_or_not : (b : Bool) (x k : ℕ) → Capped x k → eqb (cond b 0 x) 1 ≡ (not b && eqb k 1)
one_or_not true x k h = refl
one_or_not false x k h = capped_one x k h

-- THE COUNTS SAY IT
module _ (m n o : ℕ) (counts legs outputs t : List ℕ) (few : m ≤ length t) (zeros : (j : ℕ) → get_or t j 0 ≡ 0) (outs : o ≤ length outputs)
    (once : (i j : ℕ) → i < n → count j (row_at counts legs i) ≤ 1) where
  pub counts_say : anyb (λ x. eqb x 1) (take m (struck (tally_rows t (leaves_of n counts legs)) (take o outputs))) ≡ dangling_of m n o counts legs outputs
  unfolding dangling_of leaves_of
  counts_say =
      any_firsts (λ x. eqb x 1) m _ (omega (arith, struck_length (tally_rows t (map (row_at counts legs) (range n))) (take o outputs), rows_tallied_length t (map (row_at counts legs) (range n))))
      ∙ any_ext _ _ m (λ j h.
      ap (λ x. eqb x 1) (struck_at j (tally_rows t (map (row_at counts legs) (range n))) (take o outputs) (omega (arith, rows_tallied_length t (map (row_at counts legs) (range n)))))
      ∙ one_or_not (memb j (take o outputs)) _ _ (rows_at j t (map (row_at counts legs) (range n)) 0 (omega arith) (inl (zeros j)))
      ∙ ap₂ (λ l c. not (memb j l) && eqb c 1) (sym (firsts-take o outputs outs)) ((let z : 0 + sum_of (count j) (map (row_at counts legs) (range n)) ≡ sum_of (count j) (map (row_at counts legs) (range n)) = omega arith in z) ∙ rows_count j (row_at counts legs) 0 n (λ i a b. once i j (omega arith))))

-- from what the loops leave
pub counts_answer : (m n o : ℕ) (counts legs outputs t t₁ t₂ : List ℕ) (b : Bool) → m ≤ 256 → o ≤ length outputs
    → ((i j : ℕ) → i < n → count j (row_at counts legs i) ≤ 1)
    → t ≡ filled 256 0 → t₁ ≡ tally_rows t (leaves_of n counts legs) → t₂ ≡ struck t₁ (take o outputs) → b ≡ anyb (λ x. eqb x 1) (take m t₂)
    → b ≡ dangling_of m n o counts legs outputs
counts_answer m n o counts legs outputs t t₁ t₂ b few outs once e p q r =
    r ∙ ap (λ x. anyb (λ x. eqb x 1) (take m x)) (q ∙ ap (λ x. struck x (take o outputs)) p)
    ∙ counts_say m n o counts legs outputs t (omega (arith, ap length e, filled_length {A = ℕ} 256 0)) (λ j. ap (λ x. get_or x j 0) e ∙ filled_all 256 j 0) outs once

-- the network's own
pub dangling_of_lem : (m n o : ℕ) (weights counts rows outputs : List ℕ) → dangling_of m n o counts rows outputs ≡ calls.dangling (network_of m n o weights counts rows outputs)
unfolding dangling_of
dangling_of_lem m n o weights counts rows outputs =
    let N : Network = network_of m n o weights counts rows outputs in
    any_ext _ _ m (λ j h.
    ap₂ (λ l c. not (memb j l) && eqb c 1) (sym (layout_outputs m n o weights counts rows outputs))
    (ap length (keep_ext _ _ n (λ i b. ap (memb j) (sym (layout_legs m n o weights counts rows outputs i b))))
    ∙ ap (λ c. length (keep (λ i. memb j (legs N i)) (range c))) (sym (layout_leaf_count m n o weights counts rows outputs))))
    ∙ ap (λ c. anyb (λ j. not (memb j N.outputs) && eqb (length (keep (λ i. memb j (legs N i)) (range (leaf_count N)))) 1) (range c))
    (sym (layout_index_count m n o weights counts rows outputs))

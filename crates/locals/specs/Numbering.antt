-- A set of local indices weighs what the set of indices that it stands for weighs. Assumes nothing.
use Rattle.std.specs.Prelude.{Bool, true, false, ◌&&◌, List, [], ◌∷◌, ◌≡◌, refl, ℕ, zero, suc, ◌+◌, ◌-◌, ◌≤◌, ◌<◌, ltb}
use Rattle.std.proofs.Math.Bool.{cond}
use Rattle.std.proofs.Math.Path.{ap}
use Rattle.std.proofs.Common.{◌∙◌, lt-ltb, le-ltb}
use native.Mathlib.Omega.{arith}
use Rattle.std.proofs.Math.ListN.{length, get_or}
use Rattle.spec.specs.Lists.{keep, from, range, sum_of}
use Rattle.laws.specs.Booleans.{by_cases, clash}
use Rattle.laws.specs.ListLaws.{sum_same_from, sum_keep, sum_zero}
use Rattle.slots.specs.Weigh.{weighed}

-- ---- sums ----

sum_two : (f : ℕ → ℕ) (k a b : ℕ) → sum_of f (from k (a + b)) ≡ sum_of f (from k a) + sum_of f (from (k + a) b)
sum_two f k zero b =
    let e : zero + b ≡ b = omega arith in
    let g : k + zero ≡ k = omega arith in
    rw (e, g) (omega arith)
sum_two f k (suc a) b =
    let e : suc a + b ≡ suc (a + b) = omega arith in
    let g : k + suc a ≡ suc k + a = omega arith in
    rw (e, g) (omega (arith, sum_two f (suc k) a b))

-- over the places of a list, or over its members
sum_places : (h : ℕ → ℕ) (l : List ℕ) → sum_of (λ i. h (get_or l i 0)) (range (length l)) ≡ sum_of h l
sum_places h l = go 0 l (λ i. ap (λ k. get_or l k 0) (let z : 0 + i ≡ i = omega arith in z))
  where
    go : (k : ℕ) (t : List ℕ) → ((i : ℕ) → get_or l (k + i) 0 ≡ get_or t i 0) → sum_of (λ i. h (get_or l i 0)) (from k (length t)) ≡ sum_of h t
    go k [] e = refl
    go k (x ∷ t) e =
        omega (
          arith,
          ap h (ap (λ i. get_or l i 0) (let z : k ≡ k + 0 = omega arith in z) ∙ e 0),
          go (suc k) t (λ i. ap (λ j. get_or l j 0) (let z : suc k + i ≡ k + suc i = omega arith in z) ∙ e (suc i)),
        )

-- ---- the law ----

-- r: is an index local; M indices, with their flags and weights; n places, of which the first ones are the local indices'
module _ (M n : ℕ) (r flag : ℕ → Bool) (w : ℕ → ℕ) (wt : List ℕ) (short : length (keep r (range M)) ≤ n)
    (weights : (i : ℕ) → i < n → get_or wt i 0 ≡ cond (ltb i (length (keep r (range M)))) (w (get_or (keep r (range M)) i 0)) 0)
    (unsliced : (j : ℕ) → r j ≡ true → flag j ≡ false)
  where
    abbrev L : List ℕ
    L = keep r (range M)

    module _ (q q' : ℕ → Bool) (stands : (i : ℕ) → i < n → q i ≡ (ltb i (length (keep r (range M))) && q' (get_or (keep r (range M)) i 0)))
        (covered : (j : ℕ) → j < M → q' j ≡ true → flag j ≡ false → r j ≡ true)
      where
        first : (i : ℕ) → i < length L → cond (q i) (get_or wt i 0) 0 ≡ cond (q' (get_or L i 0)) (w (get_or L i 0)) 0
        first i h = rw (stands i (omega arith), weights i (omega arith), lt-ltb i (length (keep r (range M))) h)

        past : (i : ℕ) → length L ≤ i → i < n → cond (q i) (get_or wt i 0) 0 ≡ 0
        past i a b = rw (stands i b, le-ltb i (length (keep r (range M))) a)

        one : (j : ℕ) → j < M → cond (r j) (cond (q' j) (w j) 0) 0 ≡ cond (q' j) (cond (flag j) 0 (w j)) 0
        one j b =
            by_cases (r j)
            (λ e. rw (e, unsliced j e))
            (λ e. by_cases (q' j)
            (λ z. by_cases (flag j) (λ y. rw (e, z, y)) (λ y. clash (covered j b z y) e))
            (λ z. rw (e, z)))

        pub local_weighs : weighed wt [] q n ≡ sum_of (λ j. cond (flag j) 0 (w j)) (keep q' (range M))
        unfolding weighed
        local_weighs =
            let e : n ≡ length L + (n - length L) = omega arith in
            sum_keep (λ i. get_or wt i 0) q (range n)
            ∙ ap (λ k. sum_of (λ i. cond (q i) (get_or wt i 0) 0) (range k)) e
            ∙ sum_two (λ i. cond (q i) (get_or wt i 0) 0) 0 (length L) (n - length L)
            ∙ omega (
              arith,
              sum_same_from (λ i. cond (q i) (get_or wt i 0) 0) (λ i. cond (q' (get_or L i 0)) (w (get_or L i 0)) 0) 0 (length L) (λ i a b. first i (omega arith)),
              sum_same_from (λ i. cond (q i) (get_or wt i 0) 0) (λ i. 0) (0 + length L) (n - length L) (λ i a b. past i (omega arith) (omega arith)),
              sum_zero (from (0 + length L) (n - length L)),
              sum_places (λ j. cond (q' j) (w j) 0) L,
              sum_keep (λ j. cond (q' j) (w j) 0) r (range M),
              sum_same_from (λ j. cond (r j) (cond (q' j) (w j) 0) 0) (λ j. cond (q' j) (cond (flag j) 0 (w j)) 0) 0 M (λ j a b. one j (omega arith)),
              sum_keep (λ j. cond (flag j) 0 (w j)) q' (range M),
            )

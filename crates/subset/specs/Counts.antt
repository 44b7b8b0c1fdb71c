-- The count of splits tried over all masks is the count over all subsets. Assumes nothing.
use Rattle.std.specs.Prelude.{Bool, true, false, List, [], ◌∷◌, ◌≡◌, refl, eqb, Option}
use Rattle.std.proofs.Math.Bool.{cond}
use Rattle.std.proofs.Math.Path.{sym, ap}
use Rattle.std.proofs.Common.{ap₂, ◌∙◌, pow-suc, suc-mul, arith, eq-eqb, ne_eqb, eqb-true}
use Prim.Native.Nat.{ℕ, zero, suc, ◌+◌, ◌-◌, ◌*◌, ◌/◌, ◌%◌, ◌^◌, ◌≤◌, ◌<◌}
use Rattle.std.specs.Int.Bits.{bit_and}
use Rattle.std.specs.Int.Count.{ones}
use Rattle.std.proofs.Math.ListN.{length}
use Rattle.spec.specs.Lists.{from}
use Rattle.spec.specs.Improve.{splits_of, sum_subsets, passed, split_count}
use Rattle.laws.specs.Booleans.{by_cases}
use Rattle.laws.specs.Masks.{places_from, Lowest, lowest}
use Rattle.laws.specs.Splits.{cuts_length}
use Rattle.bits.specs.Lowest.{places_ones}
use Rattle.masks.specs.Singles.{own_bits, no_bits, both_places, same_places}
use Rattle.subset.specs.Walk.{passed_over, tried_of, sum_below}

-- ---- sums ----

pub sum_ext : (f g : ℕ → ℕ) (n : ℕ) → ((s : ℕ) → s < n → f s ≡ g s) → sum_below f n ≡ sum_below g n
unfolding sum_below
sum_ext f g zero h = refl
sum_ext f g (suc n) h = omega (arith, sum_ext f g n (λ s b. h s (omega arith)), h n (omega arith))

-- first the even, then the odd ones
sum_pairs : (f : ℕ → ℕ) (n : ℕ) → sum_below f (n * 2) ≡ sum_below (λ d. f (d * 2)) n + sum_below (λ d. f (d * 2 + 1)) n
unfolding sum_below
sum_pairs f zero = refl
sum_pairs f (suc n) =
    let e : suc n * 2 ≡ suc (suc (n * 2)) = omega (arith, suc-mul n 2) in
    let s : suc (n * 2) ≡ n * 2 + 1 = omega arith in
    ap (sum_below f) e ∙ omega (arith, sum_pairs f n, ap f s)

places_even : (k m d : ℕ) → places_from k (suc m) (d * 2) ≡ places_from (suc k) m d
places_even k m d =
    rw (ne_eqb (d * 2 % 2) 1 (λ q. omega arith)) (ap (places_from (suc k) m) (let z : d * 2 / 2 ≡ d = omega arith in z))

places_odd : (k m d : ℕ) → places_from k (suc m) (d * 2 + 1) ≡ k ∷ places_from (suc k) m d
places_odd k m d =
    rw (eq-eqb ((d * 2 + 1) % 2) 1 (let z : (d * 2 + 1) % 2 ≡ 1 = omega arith in z))
    (ap (λ x. k ∷ places_from (suc k) m x) (let z : (d * 2 + 1) / 2 ≡ d = omega arith in z))

-- over all subsets, or over all masks
sum_masks : (f : List ℕ → ℕ) (k m : ℕ) → sum_subsets f (from k m) ≡ sum_below (λ s. f (places_from k m s)) (2 ^ m)
unfolding sum_below
sum_masks f k zero = omega arith
sum_masks f k (suc m) =
    let g : ℕ → ℕ = λ s. f (places_from k (suc m) s) in
    let even : sum_below (λ d. g (d * 2)) (2 ^ m) ≡ sum_below (λ d. f (places_from (suc k) m d)) (2 ^ m) =
    sum_ext (λ d. g (d * 2)) (λ d. f (places_from (suc k) m d)) (2 ^ m) (λ d b. ap f (places_even k m d)) in
    let odd : sum_below (λ d. g (d * 2 + 1)) (2 ^ m) ≡ sum_below (λ d. f (k ∷ places_from (suc k) m d)) (2 ^ m) =
    sum_ext (λ d. g (d * 2 + 1)) (λ d. f (k ∷ places_from (suc k) m d)) (2 ^ m) (λ d b. ap f (places_odd k m d)) in
    omega (
      arith,
      sum_masks f (suc k) m,
      sum_masks (λ s. f (k ∷ s)) (suc k) m,
      ap (sum_below g) (pow-suc 2 m),
      sum_pairs g (2 ^ m),
      even,
      odd,
    )

-- ---- one mask ----

cond_same : (b : Bool) (x : ℕ) → cond b x x ≡ x
cond_same true x = refl
cond_same false x = refl

module _ (n m : ℕ) (has : ℕ → ℕ → Bool) (ext : ℕ → Bool) (weigh : (ℕ → Bool) → ℕ) (limited : Option ℕ)
    (best : ℕ → ℕ) (work : ℕ → ℕ → ℕ) (limit : Option ℕ) (masks : n ≡ 2 ^ m)
    (skips : (s : ℕ) → 1 ≤ s → s < n → passed m has ext weigh limited (places_from 0 n s) ≡ passed_over best work n limit s)
  where
    abbrev counted : List ℕ → ℕ
    counted s = cond (passed m has ext weigh limited s) 0 (length (splits_of s))

    counted_none : counted [] ≡ 0
    counted_none = cond_same (passed m has ext weigh limited []) 0

    counted_one : (p : ℕ) → counted (p ∷ []) ≡ 0
    counted_one p = cond_same (passed m has ext weigh limited (p ∷ [])) 0

    mask_tried : (s : ℕ) → s < n → counted (places_from 0 n s) ≡ tried_of best work n limit s
    unfolding tried_of
    mask_tried zero b = ap counted (no_bits 0 n) ∙ counted_none
    mask_tried (suc t) b =
        let s : ℕ = suc t in
        let rest : ℕ = bit_and s (s - 1) in
        let low : Lowest 0 n s rest = lowest 0 n s (omega arith) (omega (arith, own_bits n)) in
        by_cases (eqb rest 0)
        (λ e. rw e
        (ap counted (low.all ∙ ap (λ x. low.place ∷ places_from 0 n x) (eqb-true rest 0 e) ∙ ap (λ l. low.place ∷ l) (no_bits 0 n))
        ∙ counted_one low.place))
        (λ e.
        let long : length (places_from 0 n rest) ≡ ones rest =
        ap length (both_places 0 n rest) ∙ places_ones 0 n rest (omega (arith, low.below, own_bits n)) in
        let z : length (splits_of (places_from 0 n s)) ≡ 2 ^ ones rest - 1 =
        ap (λ l. length (splits_of l)) low.all
        ∙ omega (arith, cuts_length low.place (places_from 0 n rest), ap (λ x. 2 ^ x) long) in
        rw e (ap₂ (λ x y. cond x 0 y) (skips s (omega arith) b) z))

    pub all_tried : sum_below (tried_of best work n limit) n ≡ split_count m has ext weigh limited
    unfolding split_count
    all_tried =
        sym
        (sum_masks counted 0 m
        ∙ ap (sum_below (λ s. counted (places_from 0 m s))) (sym masks)
        ∙ sum_ext (λ s. counted (places_from 0 m s)) (tried_of best work n limit) n (λ s b.
        ap counted (same_places m n 0 s (omega arith) (omega (arith, own_bits n))) ∙ mask_tried s b))

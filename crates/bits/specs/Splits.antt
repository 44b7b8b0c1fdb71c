-- How many sub-masks a mask has, and how many splits all masks of m places have: as many as `most_splits` says.
-- Assumes nothing.
use Rattle.std.specs.Prelude.{◌≡◌, refl, ℕ, zero, suc, ◌+◌, ◌-◌, ◌*◌, ◌/◌, ◌%◌, ◌^◌, ◌≤◌, ◌<◌}
use Rattle.std.proofs.Common.{sym, ◌∙◌, ap, ⊎_elim, arith, pow-suc, zero-add, one-add, add-one, pow_pos}
use Rattle.std.proofs.Math.Nat.{one-le-pow, pow-le-pow_right}
use Rattle.std.proofs.Math.Decide.{ℕ_discrete}
use Rattle.std.proofs.Math.Arith.{bin_ind}
use Rattle.std.proofs.Math.Pow.{suc_ones}
use Rattle.std.specs.Int.Bits.{bit_and, and_step, and_zero_l}
use Rattle.std.proofs.lemmas.Nat.{and_le_r}
use Rattle.std.specs.Int.Count.{ones, ones_step}
use Rattle.spec.specs.ImproveClaims.{most_splits}
use Rattle.bits.specs.Submask.{part01, parts_below, part_yes, part_no, gap, odd_or_even}

-- with the lowest digit of rest set, or that of t clear, it is the halves that count
part_half : (rest t : ℕ) → t % 2 ≤ rest % 2 → part01 rest t ≡ part01 (rest / 2) (t / 2)
part_half rest t h =
    elim (ℕ_discrete (bit_and (t / 2) (rest / 2)) (t / 2)) [
      | yes p ↦ part_yes rest t (omega (arith, and_step t rest)) ∙ sym (part_yes (rest / 2) (t / 2) p)
      | no f ↦ part_no rest t (λ q. f (omega (arith, and_step t rest))) ∙ sym (part_no (rest / 2) (t / 2) f)
    ]

part_odd_0 : (rest t : ℕ) → rest % 2 ≡ 0 → t % 2 ≡ 1 → part01 rest t ≡ 0
part_odd_0 rest t z o = part_no rest t (λ q. omega (arith, and_step t rest))

half_even : (n : ℕ) → n * 2 / 2 ≡ n
half_even n = omega arith

half_odd : (n : ℕ) → suc (n * 2) / 2 ≡ n
half_odd n = omega arith

part_even : (rest n : ℕ) → part01 rest (n * 2) ≡ part01 (rest / 2) n
part_even rest n = part_half rest (n * 2) (omega arith) ∙ ap (part01 (rest / 2)) (half_even n)

part_odd_1 : (rest n : ℕ) → rest % 2 ≡ 1 → part01 rest (suc (n * 2)) ≡ part01 (rest / 2) n
part_odd_1 rest n o = part_half rest (suc (n * 2)) (omega arith) ∙ ap (part01 (rest / 2)) (half_odd n)

double : (n : ℕ) → suc n * 2 ≡ suc (suc (n * 2))
double n = omega arith

below_0 : (rest : ℕ) → rest % 2 ≡ 0 → (n : ℕ) → parts_below rest (n * 2) ≡ parts_below (rest / 2) n
unfolding parts_below
below_0 rest z zero = refl
below_0 rest z (suc n) = rw double (omega (arith, part_odd_0 rest (suc (n * 2)) z (omega arith), part_even rest n, below_0 rest z n))

below_1 : (rest : ℕ) → rest % 2 ≡ 1 → (n : ℕ) → parts_below rest (n * 2) ≡ parts_below (rest / 2) n * 2
unfolding parts_below
below_1 rest o zero = refl
below_1 rest o (suc n) = rw double (omega (arith, part_odd_1 rest n o, part_even rest n, below_1 rest o n))

pub ones-zero : ones 0 ≡ 0
unfolding ones
ones-zero = refl

-- a mask of k places has 2 to its number of members parts
pub parts_pow : (k rest : ℕ) → rest < 2 ^ k → parts_below rest (2 ^ k) ≡ 2 ^ ones rest
unfolding parts_below
parts_pow zero rest h = let e : rest ≡ zero = omega arith in rw (e, ones-zero) (omega (arith, part_yes 0 0 (and_zero_l 0)))
parts_pow (suc k) rest h =
    let e : 2 ^ suc k ≡ 2 ^ k * 2 = pow-suc 2 k in
    let ih : parts_below (rest / 2) (2 ^ k) ≡ 2 ^ ones (rest / 2) = parts_pow k (rest / 2) (omega arith) in
    rw (e, ones_step rest)
    (⊎_elim
    (λ z. rw z (below_0 rest z (2 ^ k) ∙ ih ∙ ap (λ (x : ℕ). 2 ^ x) (sym (zero-add (ones (rest / 2))))))
    (λ o. rw o (rw (one-add (ones (rest / 2))) (below_1 rest o (2 ^ k) ∙ ap (λ (x : ℕ). x * 2) ih ∙ sym (pow-suc 2 (ones (rest / 2))))))
    (odd_or_even rest))

-- so the walk from `rest` down meets that many
pub parts_count : (k rest : ℕ) → rest < 2 ^ k → parts_below rest (suc rest) ≡ 2 ^ ones rest
parts_count k rest h =
    sym (gap rest (suc rest) (2 ^ k) h (λ t a b p. omega (arith, and_le_r t rest))) ∙ parts_pow k rest h

-- the parts of all masks below n
unfoldable pub all_parts : ℕ → ℕ
all_parts zero = zero
all_parts (suc n) = 2 ^ ones n + all_parts n

ones_even : (n : ℕ) → ones (n * 2) ≡ ones n
ones_even n = ones_step (n * 2) ∙ rw (half_even n, mod_even n, zero-add)
  where
    mod_even : (n : ℕ) → n * 2 % 2 ≡ 0
    mod_even n = omega arith

ones_odd : (n : ℕ) → ones (suc (n * 2)) ≡ suc (ones n)
ones_odd n = ones_step (suc (n * 2)) ∙ rw (half_odd n, mod_odd n, one-add)
  where
    mod_odd : (n : ℕ) → suc (n * 2) % 2 ≡ 1
    mod_odd n = omega arith

all_double : (n : ℕ) → all_parts (n * 2) ≡ all_parts n * 3
unfolding all_parts
all_double zero = refl
all_double (suc n) = rw (double, ones_odd, ones_even, pow-suc) (omega (arith, all_double n))

-- the parts of all masks of m places: 3 to the m
pub all_pow : (m : ℕ) → all_parts (2 ^ m) ≡ 3 ^ m
unfolding all_parts ones
all_pow zero = refl
all_pow (suc m) = rw (pow-suc 2 m, pow-suc 3 m) (all_double (2 ^ m) ∙ ap (λ (x : ℕ). x * 3) (all_pow m))

-- splits of the masks 1 to n - 1: for each, its parts with the lowest member but itself
unfoldable pub splits_below : ℕ → ℕ
splits_below zero = zero
splits_below (suc n) = (2 ^ (ones n - 1) - 1) + splits_below n

ones_positive : (n : ℕ) → 0 < n → 0 < ones n
ones_positive =
    bin_ind (λ n. 0 < n → 0 < ones n) (λ h. absurd (omega arith))
    (λ n ih h. ⊎_elim (λ z. let k : 0 < ones (n / 2) = ih (omega arith) in omega (arith, ones_step n)) (λ o. omega (arith, ones_step n)) (odd_or_even n))

splits_all : (n : ℕ) → splits_below (suc n) * 2 + (n * 2 + 1) ≡ all_parts (suc n)
unfolding splits_below all_parts ones
splits_all zero = refl
splits_all (suc n) = omega (arith, splits_all n, pow_half (ones (suc n)) (ones_pos n))
  where
    ones_pos : (n : ℕ) → 0 < ones (suc n)
    ones_pos n = ones_positive (suc n) (omega arith)

    pow_half : (k : ℕ) → 0 < k → (2 ^ (k - 1) * 2 ≡ 2 ^ k) × (0 < 2 ^ (k - 1))
    pow_half zero h = absurd (omega arith)
    pow_half (suc k) h = let e : suc k - 1 ≡ k = omega arith in rw (e, pow-suc) (refl, pow_pos k)

pub splits_pow : (m : ℕ) → splits_below (2 ^ m) * 2 + (2 ^ m * 2) ≡ 3 ^ m + 1
splits_pow m =
    let e : suc (2 ^ m - 1) ≡ 2 ^ m = suc_ones m in
    omega (arith, rw e at (splits_all (2 ^ m - 1)), all_pow m, pow_pos m)

-- ---- the most splits that one search tries ----

pub most_pow : (m : ℕ) → most_splits m * 2 + 2 ^ m * 2 ≡ 3 ^ m + 1
unfolding most_splits
most_pow m = omega (arith, splits_pow m, one-le-pow m 3 (omega arith), pow_pos m)

pub splits_most : (m : ℕ) → splits_below (2 ^ m) ≡ most_splits m
splits_most m = omega (arith, splits_pow m, most_pow m)

-- one member more
pub most_step : (m : ℕ) → most_splits (m + 1) ≡ 3 * most_splits m + 2 ^ m - 1
most_step m = rw (add-one m) (omega (arith, most_pow m, most_pow (suc m), pow-suc 2 m, pow-suc 3 m, pow_pos m))

pub most_none : most_splits 0 ≡ 0
unfolding most_splits
most_none = refl

-- those of at most 12 members
pub most_small : (m : ℕ) → m ≤ 12 → (most_splits m ≤ 531441) × (2 ^ m ≤ 4096)
most_small m h = (omega (arith, most_pow m, pow-le-pow_right {n = 3} (omega arith) h), pow-le-pow_right {n = 2} (omega arith) h)

-- of 3, 4 and 12 members
splits_values : (splits_below 8 ≡ 6) × (splits_below 16 ≡ 25) × (splits_below (2 ^ 12) ≡ 261625)
unfolding splits_below ones most_splits
splits_values = (refl, refl, splits_most 12)

-- The sub-masks of a mask: the numbers whose digits are all digits of it. The walk sub = (sub - 1) & rest goes through all of them, from
-- `rest` down to 0; how many there are, and a value carried along the walk. Assumes nothing.
use Rattle.std.specs.Prelude.{cond, ◌≡◌, ◌⊎◌, eqb}
use Rattle.std.proofs.Common.{sym, inl, inr, ⊎_elim, le_refl, add-one, eq-eqb, ne_eqb}
use Rattle.std.proofs.Math.Path.{ap}
use Prim.Native.Nat.{ℕ, zero, suc, ◌+◌, ◌-◌, ◌*◌, ◌/◌, ◌%◌, ◌≤◌, ◌<◌, min}
use native.Mathlib.Omega.{arith}
use Rattle.std.proofs.Math.Decide.{ℕ_discrete}
use Rattle.std.proofs.Math.Arith.{bin_ind}
use Rattle.std.specs.Int.Bits.{bit_and, and_zero_l, and_step, and_le_l}

-- `a` is a part of the mask `b`
abbrev pub Part : ℕ → ℕ → Type 0
Part a b = bit_and a b ≡ a

-- 1 at a part of `rest`, else 0
unfoldable pub part01 : ℕ → ℕ → ℕ
part01 rest t = cond (eqb (bit_and t rest) t) 1 0

-- how many numbers below `n` are parts of `rest`
unfoldable pub parts_below : ℕ → ℕ → ℕ
parts_below rest zero = zero
parts_below rest (suc n) = part01 rest n + parts_below rest n

pub odd_or_even : (n : ℕ) → (n % 2 ≡ 0) ⊎ (n % 2 ≡ 1)
odd_or_even n = elim (ℕ_discrete (n % 2) 0) [ yes e ↦ inl e | no f ↦ inr (omega arith) ]

-- the part of `rest` next below `sub` is (sub - 1) & rest: no part lies between
pub next_max : (sub rest s : ℕ) → 0 < sub → Part sub rest → s < sub → Part s rest → s ≤ bit_and (sub - 1) rest
next_max =
    bin_ind (λ sub. (rest s : ℕ) → 0 < sub → Part sub rest → s < sub → Part s rest → s ≤ bit_and (sub - 1) rest)
    (λ rest s p. absurd (omega arith))
    (λ sub ih rest s p ps lt pt. ⊎_elim (even sub ih rest s p ps lt pt) (odd sub rest s ps lt pt) (odd_or_even sub))
  where
    odd : (sub rest s : ℕ) → Part sub rest → s < sub → Part s rest → sub % 2 ≡ 1 → s ≤ bit_and (sub - 1) rest
    odd sub rest s ps lt pt o =
        let e : (sub - 1) / 2 ≡ sub / 2 = omega arith in
        let k : bit_and (sub - 1) rest ≡ bit_and (sub / 2) (rest / 2) * 2 + min ((sub - 1) % 2) (rest % 2)
        = rw (← e) (and_step (sub - 1) rest) in
        omega (arith, and_step sub rest)

    even : (sub : ℕ) → ((rest s : ℕ) → 0 < sub / 2 → Part (sub / 2) rest → s < sub / 2 → Part s rest → s ≤ bit_and (sub / 2 - 1) rest)
        → (rest s : ℕ) → 0 < sub → Part sub rest → s < sub → Part s rest → sub % 2 ≡ 0 → s ≤ bit_and (sub - 1) rest
    even sub ih rest s p ps lt pt o =
        let e : (sub - 1) / 2 ≡ sub / 2 - 1 = omega arith in
        let k : bit_and (sub - 1) rest ≡ bit_and (sub / 2 - 1) (rest / 2) * 2 + min ((sub - 1) % 2) (rest % 2)
        = rw (← e) (and_step (sub - 1) rest) in
        let h : s / 2 ≤ bit_and (sub / 2 - 1) (rest / 2)
        = ih (rest / 2) (s / 2) (omega arith) (omega (arith, and_step sub rest)) (omega arith) (omega (arith, and_step s rest)) in
        omega (arith, and_step s rest)

pub part_yes : (rest t : ℕ) → Part t rest → part01 rest t ≡ 1
unfolding part01
part_yes rest t h = rw (eq-eqb _ _ h)

pub part_no : (rest t : ℕ) → (Part t rest → ⊥) → part01 rest t ≡ 0
unfolding part01
part_no rest t h = rw (ne_eqb _ _ h)

-- where no part lies between m and n, as many lie below n as below m
pub gap : (rest m n : ℕ) → m ≤ n → ((t : ℕ) → m ≤ t → t < n → Part t rest → ⊥) → parts_below rest n ≡ parts_below rest m
unfolding parts_below
gap rest m zero h none = let e : zero ≡ m = omega arith in ap (parts_below rest) e
gap rest m (suc n) h none =
    elim (ℕ_discrete m (suc n)) [
      | yes e ↦ ap (parts_below rest) (sym e)
      | no f ↦ omega (arith, part_no rest n (none n (omega arith) (le_refl (suc n))), gap rest m n (omega arith) (λ t a b. none t a (omega arith)))
    ]

-- one step of the walk: the part `sub` counts 1, and what is left is what lies below the next part
pub step_down : (rest sub : ℕ) → 0 < sub → Part sub rest → parts_below rest (sub + 1) ≡ 1 + parts_below rest (bit_and (sub - 1) rest + 1)
unfolding parts_below
step_down rest sub p h =
    rw (add-one sub, add-one (bit_and (sub - 1) rest))
    (omega (
      arith,
      part_yes rest sub h,
      gap rest (suc (bit_and (sub - 1) rest)) sub (omega (arith, and_le_l (sub - 1) rest))
          (λ t a b q. let z : t ≤ bit_and (sub - 1) rest = next_max sub rest t p h b q in omega arith),
    ))

-- x & rest is a part of rest
pub and_part : (x rest : ℕ) → Part (bit_and x rest) rest
and_part =
    bin_ind (λ x. (rest : ℕ) → Part (bit_and x rest) rest)
    (λ rest. rw (and_zero_l rest) (and_zero_l rest))
    (λ x ih rest.
    let y = bit_and x rest in
    let e : y / 2 ≡ bit_and (x / 2) (rest / 2) = omega (arith, and_step x rest) in
    let k : bit_and y rest ≡ bit_and (bit_and (x / 2) (rest / 2)) (rest / 2) * 2 + min (y % 2) (rest % 2)
    = rw (← e) (and_step y rest) in
    omega (arith, ih (rest / 2), and_step x rest))

pub below_one : (rest sub : ℕ) → sub ≡ 0 → parts_below rest (sub + 1) ≡ 1
unfolding parts_below
below_one rest sub e = rw (add-one, e) (omega (arith, part_yes rest 0 (and_zero_l rest)))

-- a walk over the parts of `rest` below n, from the highest down, that carries a value
module _ {A : Type 0} (f : ℕ → A → A) where
  unfoldable pub fold_parts : ℕ → ℕ → A → A
  fold_parts rest zero a = a
  fold_parts rest (suc n) a = fold_parts rest n (cond (eqb (bit_and n rest) n) (f n a) a)

  fold_gap : (rest m n : ℕ) (a : A) → m ≤ n → ((t : ℕ) → m ≤ t → t < n → Part t rest → ⊥) → fold_parts rest n a ≡ fold_parts rest m a
  unfolding fold_parts
  fold_gap rest m zero a h none = let e : zero ≡ m = omega arith in ap (λ (k : ℕ). fold_parts rest k a) e
  fold_gap rest m (suc n) a h none =
      elim (ℕ_discrete m (suc n)) [
        | yes e ↦ ap (λ (k : ℕ). fold_parts rest k a) (sym e)
        | no g ↦ rw (ne_eqb (bit_and n rest) n (none n (omega arith) (le_refl (suc n)))) (fold_gap rest m n a (omega arith) (λ t p q. none t p (omega arith)))
      ]

  -- one turn of the loop sub = (sub - 1) & rest
  pub fold_step : (rest sub : ℕ) (a : A) → 0 < sub → Part sub rest → fold_parts rest (suc sub) a ≡ fold_parts rest (suc (bit_and (sub - 1) rest)) (f sub a)
  unfolding fold_parts
  fold_step rest sub a p h =
      rw (eq-eqb (bit_and sub rest) sub h)
      (fold_gap rest (suc (bit_and (sub - 1) rest)) sub (f sub a) (omega (arith, and_le_l (sub - 1) rest))
      (λ t lo hi q. let z : t ≤ bit_and (sub - 1) rest = next_max sub rest t p h hi q in omega arith))

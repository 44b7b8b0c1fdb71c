-- The tree over members that a table of splits describes. Assumes nothing.
use Rattle.std.specs.Prelude.{Bool, true, false, ◌&&◌, cond, ◌≡◌, ltb}
use Rattle.std.proofs.Math.Bool.{and-false}
use Rattle.std.proofs.Math.Path.{refl, ap}
use Rattle.std.proofs.Common.{sym, ap₂, ◌∙◌}
use Prim.Native.Nat.{ℕ, zero, suc, ◌-◌, ◌≤◌, ◌<◌}
use native.Mathlib.Omega.{arith}
use Rattle.std.specs.Int.Count.{count_trailing_zeros}
use borrow.Author.Tests.{lt-ltb, le-ltb, ltb-true}
use Rattle.spec.specs.Improve.{Region, one, join}
use Rattle.laws.specs.Booleans.{by_cases, and_left, and_right}

-- is the mask s split: its part is neither empty nor the whole
abbrev pub is_split : (ℕ → ℕ) → ℕ → Bool
is_split split s = ltb 0 (split s) && ltb (split s) s

-- the tree for the mask s, at most `fuel` splits deep; a mask that is not split is one member
abbrev pub region_at : (ℕ → ℕ) → ℕ → ℕ → Region
region_at split zero s = one (count_trailing_zeros 64 s)
region_at split (suc fuel) s =
    let x = region_at split fuel (split s) in
    let y = region_at split fuel (s - split s) in
    cond (is_split split s) (join x y) (one (count_trailing_zeros 64 s))

-- no more splits deep than the mask is large
unfoldable pub region_of : (ℕ → ℕ) → ℕ → Region
region_of split s = region_at split s s

module _ (split : ℕ → ℕ) where
  nothing : (fuel s : ℕ) → s ≤ 0 → region_at split fuel s ≡ one (count_trailing_zeros 64 s)
  nothing zero s h = refl
  nothing (suc fuel) s h = rw (le-ltb (split s) s (omega arith), and-false)

  region_fuel : (a b s : ℕ) → s ≤ a → s ≤ b → region_at split a s ≡ region_at split b s
  region_fuel zero b s h k = sym (nothing b s h)
  region_fuel (suc a) zero s h k = nothing (suc a) s k
  region_fuel (suc a) (suc b) s h k =
      by_cases (is_split split s)
      (λ e.
      let x : 0 < split s = ltb-true 0 (split s) (and_left (ltb 0 (split s)) (ltb (split s) s) e) in
      let y : split s < s = ltb-true (split s) s (and_right (ltb 0 (split s)) (ltb (split s) s) e) in
      rw e (ap₂ (λ p q. join p q) (region_fuel a b (split s) (omega arith) (omega arith)) (region_fuel a b (s - split s) (omega arith) (omega arith))))
      (λ e. rw e)

  pub region_split : (s : ℕ) → is_split split s ≡ true → region_of split s ≡ join (region_of split (split s)) (region_of split (s - split s))
  unfolding region_of
  region_split s e =
      let x : 0 < split s = ltb-true 0 (split s) (and_left (ltb 0 (split s)) (ltb (split s) s) e) in
      let y : split s < s = ltb-true (split s) s (and_right (ltb 0 (split s)) (ltb (split s) s) e) in
      let z : s ≡ suc (s - 1) = omega arith in
      ap (λ f. region_at split f s) z
      ∙ rw e
      (ap₂ (λ p q. join p q) (region_fuel (s - 1) (split s) (split s) (omega arith) (omega arith))
      (region_fuel (s - 1) (s - split s) (s - split s) (omega arith) (omega arith)))

  pub region_whole : (s : ℕ) → is_split split s ≡ false → region_of split s ≡ one (count_trailing_zeros 64 s)
  unfolding region_of
  region_whole zero e = refl
  region_whole (suc s) e = rw e

  -- in the two ways in which a part is known
  pub split_is : (s : ℕ) → 1 ≤ split s → split s < s → is_split split s ≡ true
  split_is s h k = rw (lt-ltb 0 (split s) h, lt-ltb (split s) s k)

  pub whole_is : (s : ℕ) → split s ≡ 0 → is_split split s ≡ false
  whole_is s h = rw (le-ltb 0 (split s) (omega arith))

-- Rows of two words as index sets. Assumes nothing.
use Rattle.std.specs.Prelude.{Bool, ◌||◌, List, [], ◌∷◌, ◌≡◌, ◌<◌, get_or}
use Rattle.std.proofs.Common.{refl}
use Prim.Native.Nat.{ℕ, ◌+◌, ◌*◌, ◌/◌, ◌%◌}
use native.Mathlib.Omega.{arith}
use Rattle.std.proofs.Math.Decide.{ℕ_discrete}
use Rattle.bits.specs.Digits.{Digitwise, digit}

-- does a row have the index j
unfoldable pub row_has : List ℕ → ℕ → Bool
row_has r j = digit (get_or r (j / 64) 0) (j % 64)

-- does row s
abbrev pub has_at : List (List ℕ) → ℕ → ℕ → Bool
has_at rows s j = row_has (get_or rows s []) j

-- does one of two rows
abbrev pub in_either : List ℕ → List ℕ → ℕ → Bool
in_either a b j = row_has a j || row_has b j

pub row_digit : (r : List ℕ) (k i : ℕ) → i < 64 → row_has r (k * 64 + i) ≡ digit (get_or r k 0) i
unfolding row_has
row_digit r k i h =
    let e : (k * 64 + i) / 64 ≡ k = omega arith in
    let f : (k * 64 + i) % 64 ≡ i = omega arith in
    rw (e, f) refl

-- an operation on both words, that works digit by digit
pub row_op : (op : ℕ → ℕ → ℕ) (f : Bool → Bool → Bool) → Digitwise op f → (x y : List ℕ) (j : ℕ) → j < 128
    → row_has (op (get_or x 0 0) (get_or y 0 0) ∷ op (get_or x 1 0) (get_or y 1 0) ∷ []) j ≡ f (row_has x j) (row_has y j)
unfolding row_has
row_op op f d x y j h =
    elim (ℕ_discrete (j / 64) 0) [
      | yes e ↦ rw e (d (get_or x 0 0) (get_or y 0 0) (j % 64))
      | no g ↦ (let e : j / 64 ≡ 1 = omega (arith, g) in rw e (d (get_or x 1 0) (get_or y 1 0) (j % 64)))
    ]

-- What is claimed of the text that the program writes. Definitions only; proofs in TextLaws of laws. Assumes nothing.
use Rattle.std.specs.Prelude.{List, [], ◌∷◌, ◌≡◌, ℕ, ◌+◌, ◌*◌, ◌-◌}
use Rattle.spec.specs.Text.{decimal}

-- the number that decimal digits stand for, after digits that stand for a
abbrev pub value_from : ℕ → List ℕ → ℕ
value_from a [] = a
value_from a (b ∷ l) = value_from (a * 10 + (b - 48)) l

-- its digits give a number back
abbrev pub ReadsBack : Type 0
ReadsBack = (x : ℕ) → value_from 0 (decimal x) ≡ x

-- so different numbers have different digits
abbrev pub OwnDigits : Type 0
OwnDigits = (x y : ℕ) → decimal x ≡ decimal y → x ≡ y

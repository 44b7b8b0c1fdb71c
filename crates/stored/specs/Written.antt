-- What is written of a list, in bytes. Definitions only. Assumes nothing.
use Rattle.std.specs.Prelude.{List, [], ◌∷◌, ℕ, zero, suc, decimal, flat_map}

-- a space, and a number in decimal
abbrev pub after_space : ℕ → List ℕ
after_space x = 32 ∷ decimal x

-- the numbers of a list, each after a space
abbrev pub spaced : List ℕ → List ℕ
spaced numbers = flat_map after_space numbers

-- the places of a list that are not 0, where the first place has the number i
abbrev pub flagged_from : ℕ → List ℕ → List ℕ
flagged_from i [] = []
flagged_from i (zero ∷ flags) = flagged_from (suc i) flags
flagged_from i (suc flag ∷ flags) = i ∷ flagged_from (suc i) flags

-- the places of a list that are not 0, rising
abbrev pub flagged : List ℕ → List ℕ
flagged flags = flagged_from 0 flags

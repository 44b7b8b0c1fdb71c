-- Networks: leaves that share weighted indices, and which of them are accepted. Definitions only. Assumes nothing.
use Rattle.std.specs.Prelude.{Bool, true, false, ◌&&◌, ◌||◌, List, [], ◌∷◌, ◌≡◌, ℕ, ◌^◌, ◌<◌, ltb, leb, length, get_or, Option, Result, Ok}
use Rattle.spec.specs.declared.Refusal.{Refusal}
use Rattle.spec.specs.declared.Refusal.TheVariants.{TooLarge, Overweight, OutOfRange, Repeated}
use Rattle.spec.specs.Lists.{memb, anyb, range}
use Rattle.spec.specs.Refusal.{Check, check, first, passes, decide}

-- "Made by the file reader, read by all."
pub record Network : Type 0 where
  -- the indices of each leaf
  pub leaves : List (List ℕ)
  -- the output indices
  pub outputs : List ℕ
  -- the weight of each index in bits: the indices are 0, 1, .., as many as there are weights
  pub weights : List ℕ

-- the number of leaves
abbrev pub leaf_count : Network → ℕ
leaf_count N = length N.leaves

-- the number of indices
abbrev pub index_count : Network → ℕ
index_count N = length N.weights

-- the weight of an index, and its dimension
abbrev pub weight : Network → ℕ → ℕ
weight N j = get_or N.weights j 0

abbrev pub dim : Network → ℕ → ℕ
dim N j = 2 ^ weight N j

-- the indices of leaf i
abbrev pub legs : Network → ℕ → List ℕ
legs N i = get_or N.leaves i []

-- does one of the leaves that pass the test p name the index j
unfoldable pub named : Network → (ℕ → Bool) → ℕ → Bool
named N p j = anyb (λ i. p i && memb j (legs N i)) (range (leaf_count N))

-- every index that a leaf names is one of the network's
abbrev pub InRange : Network → Type 0
InRange N = (i j : ℕ) → i < leaf_count N → memb j (legs N i) ≡ true → j < index_count N

-- the flagged indices are named by leaves and are no outputs. (A list of flags stands for the test `flag_at` of Calls.)
abbrev pub Sliceable : Network → (ℕ → Bool) → Type 0
Sliceable N flag = (j : ℕ) → flag j ≡ true → (named N (λ i. true) j ≡ true) × (memb j N.outputs ≡ false)

-- ---- acceptance ----

-- "Up to 128 leaves, 256 indices numbered from 0, 32 indices to a leaf, 32 outputs. Each index has a weight of 0 to 8 bits"
abbrev pub max_leaves : ℕ
max_leaves = 128

abbrev pub max_indices : ℕ
max_indices = 256

abbrev pub max_legs : ℕ
max_legs = 32

abbrev pub max_outputs : ℕ
max_outputs = 32

abbrev pub max_weight : ℕ
max_weight = 8

-- does a list name a number twice
abbrev pub repeats : List ℕ → Bool
repeats [] = false
repeats (j ∷ l) = memb j l || repeats l

-- does a list name an index that is not below m
abbrev pub any_out_of_range : ℕ → List ℕ → Bool
any_out_of_range m l = anyb (λ j. leb m j) l

-- The conditions on a network, in their order; `large` is a count of the call's own that is above its limit. A record is checked
-- by number: all of 3, then all of 4, of 5, of 6.
abbrev pub network_checks : Bool → Network → List Check
network_checks large N =
    check
    (large
    || (ltb max_leaves (leaf_count N)
    || (ltb max_indices (index_count N) || (anyb (λ l. ltb max_legs (length l)) N.leaves || ltb max_outputs (length N.outputs)))))
    TooLarge
    ∷ check (anyb (λ w. ltb max_weight w) N.weights) Overweight
    ∷ check (anyb (any_out_of_range (index_count N)) N.leaves || any_out_of_range (index_count N) N.outputs) OutOfRange
    ∷ check (anyb repeats N.leaves || repeats N.outputs) Repeated
    ∷ []

-- "A network that keeps all this, from a file or as a record, is called accepted."
abbrev pub refusal_of : Network → Option Refusal
refusal_of N = first (network_checks false N)

abbrev pub accepted : Network → Bool
accepted N = passes (refusal_of N)

-- the check of a network as an answer
abbrev pub accepting : Network → Result (Unit {0}) Refusal
accepting N = decide (refusal_of N) (Ok tt)

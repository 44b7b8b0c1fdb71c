-- What is claimed of the refusals and of acceptance. Definitions only; proofs in Accepted and RefusedLaws of laws. Assumes nothing.
use Rattle.std.specs.Prelude.{true, [], ◌∷◌, ◌↔◌, ◌≡◌, ℕ, ◌≤◌, ◌<◌, length, Some}
use Rattle.spec.specs.declared.Refusal.{Refusal}
use Rattle.spec.specs.declared.Refusal.TheVariants.{TooLarge, Overweight, OutOfRange, Repeated}
use Rattle.spec.specs.Lists.{memb, count}
use Rattle.spec.specs.Refusal.{number_of}
use Rattle.spec.specs.Network.{Network, leaf_count, index_count, weight, legs, InRange, max_leaves, max_indices, max_legs, max_outputs, max_weight, refusal_of, accepted}

-- two refusals have two numbers
abbrev pub DistinctNumbers : Type 0
DistinctNumbers = (r s : Refusal) → number_of r ≡ number_of s → r ≡ s

-- acceptance as a statement: "A leaf or the outputs never name an index twice, and name only indices below the index count."
pub record Accepted (N : Network) : Type 0 where
  pub few_leaves : leaf_count N ≤ max_leaves
  pub few_indices : index_count N ≤ max_indices
  pub few_legs : (i : ℕ) → i < leaf_count N → length (legs N i) ≤ max_legs
  pub few_outputs : length N.outputs ≤ max_outputs
  pub weights_fit : (j : ℕ) → weight N j ≤ max_weight
  pub in_range : InRange N
  pub outputs_in_range : (j : ℕ) → memb j N.outputs ≡ true → j < index_count N
  pub once : (i j : ℕ) → i < leaf_count N → count j (legs N i) ≤ 1
  pub outputs_once : (j : ℕ) → count j N.outputs ≤ 1

-- the test tells it
abbrev pub AcceptedMeans : Type 0
AcceptedMeans = (N : Network) → (accepted N ≡ true → Accepted N) × (Accepted N → accepted N ≡ true)

-- ---- each refusal of a record, as a fact ----

-- a count is above its limit
pub data CountAbove (N : Network) : Type 0 where
  many_leaves : max_leaves < leaf_count N → CountAbove N
  many_indices : max_indices < index_count N → CountAbove N
  many_legs : (i : ℕ) → i < leaf_count N → max_legs < length (legs N i) → CountAbove N
  many_outputs : max_outputs < length N.outputs → CountAbove N

-- a weight is above 8
abbrev pub WeightAbove : Network → Type 0
WeightAbove N = (j : ℕ) × (max_weight < weight N j)

-- a leaf, or the outputs, name an index that is not below the index count
pub data IndexBeyond (N : Network) : Type 0 where
  beyond_in_leaf : (i j : ℕ) → i < leaf_count N → memb j (legs N i) ≡ true → index_count N ≤ j → IndexBeyond N
  beyond_in_outputs : (j : ℕ) → memb j N.outputs ≡ true → index_count N ≤ j → IndexBeyond N

-- a leaf, or the outputs, name an index more than once
pub data IndexRepeated (N : Network) : Type 0 where
  repeated_in_leaf : (i j : ℕ) → i < leaf_count N → 1 < count j (legs N i) → IndexRepeated N
  repeated_in_outputs : (j : ℕ) → 1 < count j N.outputs → IndexRepeated N

-- "Other calls check by number": which facts each refusal means, and that there are no others
pub record RefusedFor (N : Network) : Type 0 where
  pub large : (refusal_of N ≡ Some TooLarge) ↔ CountAbove N
  pub heavy : (refusal_of N ≡ Some Overweight) ↔ ((CountAbove N → ⊥) × WeightAbove N)
  pub range : (refusal_of N ≡ Some OutOfRange) ↔ ((CountAbove N → ⊥) × (WeightAbove N → ⊥) × IndexBeyond N)
  pub again : (refusal_of N ≡ Some Repeated) ↔ ((CountAbove N → ⊥) × (WeightAbove N → ⊥) × (IndexBeyond N → ⊥) × IndexRepeated N)
  pub others : (r : Refusal) → refusal_of N ≡ Some r → memb (number_of r) (3 ∷ 4 ∷ 5 ∷ 6 ∷ []) ≡ true

abbrev pub RefusedJust : Type 0
RefusedJust = (N : Network) → RefusedFor N

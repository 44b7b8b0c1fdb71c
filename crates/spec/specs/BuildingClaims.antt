-- What is claimed of networks made step by step, and of networks as lists with counts. Definitions only; proofs in BuildingLaws and
-- LayoutLaws of laws. Assumes nothing.
use Rattle.std.specs.Prelude.{true, List, [], ◌∷◌, ◌↔◌, ◌≡◌, ℕ, ◌+◌, ◌*◌, ◌<◌, length, get_or, Some, Result, Err, Ok}
use Rattle.spec.specs.declared.Refusal.{Refusal}
use Rattle.spec.specs.Refusal.{and_then}
use Rattle.spec.specs.Network.{Network, leaf_count, index_count, weight, legs, max_legs, refusal_of, accepted}
use Rattle.spec.specs.Layout.{network_of}
use Rattle.spec.specs.Building.{with_weight, with_leaf, with_output, add_weight, add_leaf, add_output}

-- ---- step by step ----

-- the members of a list are added one by one, in their order; a refusal ends it
abbrev pub add_all : {A : Type 0} → (Network → A → Result Network Refusal) → Network → List A → Result Network Refusal
add_all add N [] = Ok N
add_all add N (x ∷ l) = and_then (add N x) λ M. add_all add M l

-- from the empty network the weights are added, then the leaves, then the outputs
abbrev pub built : (weights : List ℕ) (leaves : List (List ℕ)) (outputs : List ℕ) → Result Network Refusal
built weights leaves outputs =
    and_then (add_all add_weight (record { leaves = []; outputs = []; weights = [] }) weights) λ M.
    and_then (add_all add_leaf M leaves) λ L. add_all add_output L outputs

-- this makes the network of these weights, leaves and outputs, just if it is accepted: then each addition is accepted
abbrev pub BuiltJust : Type 0
BuiltJust =
    (weights : List ℕ) (leaves : List (List ℕ)) (outputs : List ℕ) (N : Network)
    → (built weights leaves outputs ≡ Ok N) ↔ ((N ≡ record { leaves = leaves; outputs = outputs; weights = weights }) × (accepted N ≡ true))

-- an addition is refused as the network with it would be
pub record AdditionRefused (N : Network) (r : Refusal) : Type 0 where
  pub weight : (w : ℕ) → (add_weight N w ≡ Err r) ↔ (refusal_of (with_weight N w) ≡ Some r)
  pub leaf : (l : List ℕ) → (add_leaf N l ≡ Err r) ↔ (refusal_of (with_leaf N l) ≡ Some r)
  pub output : (j : ℕ) → (add_output N j ≡ Err r) ↔ (refusal_of (with_output N j) ≡ Some r)

abbrev pub AdditionsRefused : Type 0
AdditionsRefused = (N : Network) (r : Refusal) → AdditionRefused N r

-- ---- lists with counts ----

-- a network is what the lists hold within the counts m, n and o, and within each leaf's own
pub record Holds (m n o : ℕ) (weights counts cells outputs : List ℕ) (N : Network) : Type 0 where
  pub indices : index_count N ≡ m
  pub leaves : leaf_count N ≡ n
  pub output_count : length N.outputs ≡ o
  pub weight : (j : ℕ) → j < m → weight N j ≡ get_or weights j 0
  pub leg_count : (i : ℕ) → i < n → length (legs N i) ≡ get_or counts i 0
  pub leg : (i k : ℕ) → i < n → k < get_or counts i 0 → get_or (legs N i) k 0 ≡ get_or cells (i * max_legs + k) 0
  pub output : (k : ℕ) → k < o → get_or N.outputs k 0 ≡ get_or outputs k 0

abbrev pub LaidOut : Type 0
LaidOut =
    (m n o : ℕ) (weights counts cells outputs : List ℕ)
    → Holds m n o weights counts cells outputs (network_of m n o weights counts cells outputs)

-- Places of a record's arrays past its counts are no part of the network: a network that is what the lists hold is theirs, so lists that
-- agree within the counts have one network
abbrev pub OneNetwork : Type 0
OneNetwork =
    (m n o : ℕ) (weights counts cells outputs : List ℕ) (N : Network) → Holds m n o weights counts cells outputs N
    → N ≡ network_of m n o weights counts cells outputs

pub record Agree (m n o : ℕ) (weights counts cells outputs weights' counts' cells' outputs' : List ℕ) : Type 0 where
  pub weight : (j : ℕ) → j < m → get_or weights j 0 ≡ get_or weights' j 0
  pub leg_count : (i : ℕ) → i < n → get_or counts i 0 ≡ get_or counts' i 0
  pub leg : (i k : ℕ) → i < n → k < get_or counts i 0 → get_or cells (i * max_legs + k) 0 ≡ get_or cells' (i * max_legs + k) 0
  pub output : (k : ℕ) → k < o → get_or outputs k 0 ≡ get_or outputs' k 0

abbrev pub SameWithinCounts : Type 0
SameWithinCounts =
    (m n o : ℕ) (weights counts cells outputs weights' counts' cells' outputs' : List ℕ)
    → Agree m n o weights counts cells outputs weights' counts' cells' outputs'
    → network_of m n o weights counts cells outputs ≡ network_of m n o weights' counts' cells' outputs'

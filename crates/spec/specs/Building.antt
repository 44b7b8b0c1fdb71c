-- Networks made step by step: one weight, one leaf, one output more. Definitions only. Assumes nothing.
use Rattle.std.specs.Prelude.{List, [], ◌∷◌, ◌++◌, ℕ, Result, Ok}
use Rattle.spec.specs.Refusal.{decide}
use Rattle.spec.specs.declared.Refusal.{Refusal}
use Rattle.spec.specs.Network.{Network, refusal_of}

-- the network with one weight more: one index more, the last
abbrev pub with_weight : Network → ℕ → Network
with_weight N w = record { leaves = N.leaves; outputs = N.outputs; weights = N.weights ++ (w ∷ []) }

-- with one leaf more, the last, of the given indices in their order
abbrev pub with_leaf : Network → List ℕ → Network
with_leaf N l = record { leaves = N.leaves ++ (l ∷ []); outputs = N.outputs; weights = N.weights }

-- with one output more, the last
abbrev pub with_output : Network → ℕ → Network
with_output N j = record { leaves = N.leaves; outputs = N.outputs ++ (j ∷ []); weights = N.weights }

-- a network, if it is accepted; else what it is refused for, by number
abbrev pub if_accepted : Network → Result Network Refusal
if_accepted N = decide (refusal_of N) (Ok N)

-- "functions of the type make an empty network and add leaves": an addition is refused as the network with it would be
abbrev pub add_weight : Network → ℕ → Result Network Refusal
add_weight N w = if_accepted (with_weight N w)

abbrev pub add_leaf : Network → List ℕ → Result Network Refusal
add_leaf N l = if_accepted (with_leaf N l)

abbrev pub add_output : Network → ℕ → Result Network Refusal
add_output N j = if_accepted (with_output N j)

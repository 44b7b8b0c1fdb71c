-- The lists of a network that passed the check. Assumes nothing.
use Rattle.std.specs.Prelude.{◌≡◌, List, ℕ, ◌*◌, ◌≤◌, length, None}
use Rattle.spec.specs.Network.{Network, max_leaves, max_legs, refusal_of}
use Rattle.spec.specs.Layout.{network_of}

-- the network of lists that are as long as their counts
abbrev pub lists_net : (weights counts legs outputs : List ℕ) → Network
lists_net weights counts legs outputs = network_of (length weights) (length counts) (length outputs) weights counts legs outputs

-- each leaf has a row of places for its indices, as far as the leaves are within the limit
abbrev pub HasRows : (counts legs : List ℕ) → Type 0
HasRows counts legs = length counts ≤ max_leaves → length counts * max_legs ≤ length legs

-- what holds of an accepted network's lists
pub record Holds (weights counts legs outputs : List ℕ) : Type 0 where
  -- each leaf has a row of places for its indices
  pub rows : HasRows counts legs
  -- the check finds nothing
  pub passed : refusal_of (lists_net weights counts legs outputs) ≡ None

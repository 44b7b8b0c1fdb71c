-- A network as lists with counts: what a record, or lists that are lent, stand for. Definitions only. Assumes nothing.
use Rattle.std.specs.Prelude.{List, map, ℕ, ◌*◌, get_or, drop}
use Rattle.spec.specs.Lists.{range}
use Rattle.spec.specs.Network.{Network, max_legs}

-- the first n numbers of a list; past its end they are 0, so that a count is never lost
unfoldable pub firsts : ℕ → List ℕ → List ℕ
firsts n l = map (λ k. get_or l k 0) (range n)

-- the indices of leaf i: as many as its count says, from its row of 32 places on
abbrev pub row_at : List ℕ → List ℕ → ℕ → List ℕ
row_at counts legs i = firsts (get_or counts i 0) (drop (i * max_legs) legs)

-- the network of m weights, n leaves and o outputs. Places past the counts are no part of it.
unfoldable pub network_of : (m n o : ℕ) (weights counts legs outputs : List ℕ) → Network
network_of m n o weights counts legs outputs =
    record { leaves = map (row_at counts legs) (range n); outputs = firsts o outputs; weights = firsts m weights }

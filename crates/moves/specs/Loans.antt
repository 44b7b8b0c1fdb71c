-- The lists of a bipartition that is worked on. Assumes nothing.
use Rattle.std.specs.Prelude.{◌≡◌}
use Rattle.spec.specs.Hypergraph.{Sides}
use Rattle.moves.specs.declared.bipartition.Bipartition.{Bipartition}

-- the same lists are lent, whatever they hold
abbrev pub IsSameLoan : Bipartition → Bipartition → Type 0
IsSameLoan old new = (new.words.ghost_name ≡ old.words.ghost_name) × (new.part.ghost_name ≡ old.part.ghost_name)

-- the side of each vertex, and what the sides weigh
abbrev pub sides_at : Bipartition → Sides
sides_at b = record { part = b.part.now; weights = b.loads }

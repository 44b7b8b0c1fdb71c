-- The lists of all levels, lent. Assumes nothing.
use Rattle.std.specs.Prelude.{◌≡◌}
use Rattle.levels.specs.declared.Levels.{Levels}

-- the same lists are lent, whatever they hold
abbrev pub IsSameLoan : Levels → Levels → Type 0
IsSameLoan old new =
    (new.net_weights.ghost_name ≡ old.net_weights.ghost_name)
    × (new.vertex_weights.ghost_name ≡ old.vertex_weights.ghost_name)
    × (new.places.ghost_name ≡ old.places.ghost_name)

-- The lists of the masks: how long they are at least. Definitions only. Assumes nothing.
use Rattle.std.specs.Prelude.{ℕ, ◌≤◌, length}
use Rattle.masks.specs.declared.Masks.{Masks}

-- a place for each of n masks
abbrev pub HasRoom : Masks → ℕ → Type 0
HasRoom w n =
    (n ≤ length w.united.now) × (n ≤ length w.kept.now) × (n ≤ length w.bits.now) × (n ≤ length w.cost.now) × (n ≤ length w.part.now)

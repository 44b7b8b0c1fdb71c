use Rattle.masks.specs.Tables.{work_at}
use Rattle.subset.specs.Walk.{Filled, best_at, split_at}
use Prim.Native.Nat.{◌*◌, ◌≤◌}
use mathlib.Core.Path.{◌≡◌}
use lib.ListN.{length}
use Rattle.subset.proofs.fill.Given as goal

abbrev pub invariant-loop-s : goal.invariant-loop-s
invariant-loop-s l =
    (1 ≤ l.s) × (l.tried ≤ l.s * 4096) × (length l.cost ≡ length l.tables.bits.now) × (length l.part ≡ length l.tables.bits.now)
    × Filled (best_at l.cost) (split_at l.part) (work_at l.tables.kept.now l.tables.planes.weights.now) (length l.tables.bits.now) l.limit l.s l.tried

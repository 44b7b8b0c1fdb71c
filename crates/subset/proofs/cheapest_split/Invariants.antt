use Rattle.subset.specs.Walking.{Walking}
use Rattle.masks.specs.Tables.{work_at}
use Rattle.subset.specs.Walk.{best_at}
use Prim.Native.Nat.{◌≤◌}
use lib.ListN.{length}
use Rattle.subset.proofs.cheapest_split.Given as goal

abbrev pub invariant-loop-sub : goal.invariant-loop-sub
invariant-loop-sub l = (l.sub ≤ l.rest) × Walking (best_at l.cost) (work_at l.tables.kept.now l.tables.planes.weights.now) (length l.tables.bits.now) l.low l.rest l.found l.sub

abbrev pub decreases-loop-sub : goal.decreases-loop-sub
decreases-loop-sub l = l.sub

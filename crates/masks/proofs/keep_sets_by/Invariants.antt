use Rattle.masks.specs.Tables.{KeptBelow}
use Prim.Native.Nat.{◌≤◌}
use lib.ListN.{length}
use Rattle.masks.proofs.keep_sets_by.Given as goal

abbrev pub invariant-loop-s : goal.invariant-loop-s
invariant-loop-s l = (1 ≤ l.s) × KeptBelow l.united l.planes.weights.now l.kept l.bits (length l.united) l.s

use lib.ListN.{drop, length}
use Rattle.network.specs.Checks.{leaves_of}
use Rattle.reconfigure.specs.Tally.{tally_rows}
use Prim.Native.Nat.{◌≤◌}
use mathlib.Core.Path.{◌≡◌}
use Rattle.reconfigure.proofs.dangling.tally_leaves.Given as goal

abbrev pub invariant-loop-i : goal.invariant-loop-i
invariant-loop-i l = (l.i ≤ l.n) × (length l.tally ≡ length l.initial.tally) × (tally_rows l.tally (drop l.i (leaves_of l.n l.counts l.legs)) ≡ tally_rows l.initial.tally (leaves_of l.n l.counts l.legs))

use lib.ListN.{drop, length}
use Rattle.reconfigure.specs.Tally.{tallied}
use mathlib.Core.Path.{◌≡◌}
use Rattle.reconfigure.proofs.dangling.tally_row.Given as goal

abbrev pub invariant-loop-j : goal.invariant-loop-j
invariant-loop-j l = (length l.tally ≡ length l.initial.tally) × (tallied l.tally (drop l.j-index l.row) ≡ tallied l.initial.tally l.row)

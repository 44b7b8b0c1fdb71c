use lib.ListN.{drop, length}
use Rattle.reconfigure.specs.Tally.{struck}
use mathlib.Core.Path.{◌≡◌}
use Rattle.reconfigure.proofs.dangling.strike.Given as goal

abbrev pub invariant-loop-j : goal.invariant-loop-j
invariant-loop-j l = (length l.tally ≡ length l.initial.tally) × (struck l.tally (drop l.j-index l.row) ≡ struck l.initial.tally l.row)

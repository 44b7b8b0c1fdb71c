use Rattle.network.specs.Searches.{NotBetween, OnceBefore}
use mathlib.Core.Bool.{false}
use Prim.Native.Nat.{◌-◌}
use mathlib.Core.Path.{◌≡◌}
use lib.ListN.{length}
use Rattle.network.proofs.scan.repeated.Given as goal

abbrev pub invariant-loop-j : goal.invariant-loop-j
invariant-loop-j l = (l.found ≡ false) × NotBetween l.row l.i l.j l.x

abbrev pub decreases-loop-j : goal.decreases-loop-j
decreases-loop-j l = length l.row - l.j

abbrev pub invariant-search : goal.invariant-search
invariant-search l = (l.found ≡ false) × OnceBefore l.row l.i

abbrev pub decreases-search : goal.decreases-search
decreases-search l = length l.row - l.i

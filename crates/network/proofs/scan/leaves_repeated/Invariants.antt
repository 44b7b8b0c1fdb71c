use Rattle.network.specs.Checks.{leaves_of}
use Rattle.network.specs.Searches.{NoneBefore}
use Rattle.spec.specs.Network.{repeats}
use Prim.Native.Nat.{◌-◌}
use Rattle.network.proofs.scan.leaves_repeated.Given as goal

abbrev pub invariant-loop-i : goal.invariant-loop-i
invariant-loop-i l = NoneBefore repeats (leaves_of l.n l.counts l.legs) l.i

abbrev pub decreases-loop-i : goal.decreases-loop-i
decreases-loop-i l = l.n - l.i

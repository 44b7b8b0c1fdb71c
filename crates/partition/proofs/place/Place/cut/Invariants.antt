use Prim.Native.Nat.{◌≤◌}
use mathlib.Core.Path.{◌≡◌}
use Rattle.partition.specs.Cuts.{cut_sum}
use Rattle.partition.proofs.place.Place.cut.Given as goal

abbrev pub invariant-loop-e : goal.invariant-loop-e
invariant-loop-e l = (l.e ≤ l.self.net_count) × (l.c ≡ cut_sum l.words l.self.nets l.self.sides l.weights l.e)

use Rattle.coarsen.specs.Mapped.{mapped}
use Prim.Native.Nat.{◌≤◌}
use mathlib.Core.Path.{◌≡◌}
use Rattle.coarsen.proofs.map_nets.Given as goal

abbrev pub invariant-loop-e : goal.invariant-loop-e
invariant-loop-e l = (l.e ≤ l.m) × (l.graph ≡ mapped l.nets l.coarse l.places l.initial.graph l.e)

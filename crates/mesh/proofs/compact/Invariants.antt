use Rattle.mesh.specs.Compact.{kept_of, compacted}
use Prim.Native.Nat.{◌≤◌}
use mathlib.Core.Path.{◌≡◌}
use Rattle.mesh.proofs.compact.Given as goal

abbrev pub invariant-loop-e : goal.invariant-loop-e
invariant-loop-e l = (l.e ≤ l.m) × (kept_of l.graph l.kept l.k ≡ compacted l.nets l.weights (kept_of l.initial.graph l.initial.kept 0) l.e) × (l.k ≤ l.e)

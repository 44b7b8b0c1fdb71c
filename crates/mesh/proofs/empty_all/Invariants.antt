use Rattle.mesh.specs.Entries.{emptied}
use Prim.Native.Nat.{◌≤◌}
use mathlib.Core.Path.{◌≡◌}
use Rattle.mesh.proofs.empty_all.Given as goal

abbrev pub invariant-loop-v : goal.invariant-loop-v
invariant-loop-v l = (l.v ≤ l.n) × (l.words ≡ emptied l.w l.base l.initial.words l.v)

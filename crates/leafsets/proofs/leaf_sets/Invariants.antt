use Rattle.leafsets.specs.Passes.{singles}
use Prim.Native.Nat.{◌≤◌}
use mathlib.Core.Path.{◌≡◌}
use Rattle.leafsets.proofs.leaf_sets.Given as goal

abbrev pub invariant-loop-i : goal.invariant-loop-i
invariant-loop-i l = (l.i ≤ l.n) × (l.ws ≡ singles l.w l.base l.initial.ws l.i)

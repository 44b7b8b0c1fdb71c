use Rattle.greedynodes.specs.Copied.{copied_to}
use Prim.Native.Nat.{◌≤◌}
use mathlib.Core.Path.{◌≡◌}
use Rattle.greedynodes.proofs.copy_out.Given as goal

abbrev pub invariant-loop-i : goal.invariant-loop-i
invariant-loop-i l = (l.i ≤ l.n) × (l.kids ≡ copied_to l.initial.kids l.at l.list l.i)

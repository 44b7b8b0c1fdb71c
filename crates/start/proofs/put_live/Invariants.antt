use Rattle.spec.specs.Lists.{range}
use Prim.Native.Nat.{◌≤◌}
use mathlib.Core.Path.{◌≡◌}
use lib.ListN.{length}
use Rattle.start.proofs.put_live.Given as goal

abbrev pub invariant-loop-slot : goal.invariant-loop-slot
invariant-loop-slot l = (l.slot ≤ l.count) × (l.live.items ≡ range l.slot) × (length l.live.items ≡ l.slot)

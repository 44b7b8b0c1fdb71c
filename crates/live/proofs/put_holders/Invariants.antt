use Rattle.live.specs.Holders.{side_by_side}
use Prim.Native.Nat.{◌≤◌}
use mathlib.Core.Path.{◌≡◌}
use lib.ListN.{length}
use Rattle.live.proofs.put_holders.Given as goal

abbrev pub invariant-loop-k : goal.invariant-loop-k
invariant-loop-k l = (l.k ≤ l.w) × (l.sets ≡ side_by_side l.initial.sets l.w l.live (length l.live) l.k)

use Rattle.walk.specs.Order.{Going}
use Prim.Native.Nat.{◌+◌, ◌≤◌}
use mathlib.Core.Path.{◌≡◌}
use lib.ListN.{length}
use Rattle.walk.proofs.fill_order.Given as goal

abbrev pub invariant-loop-rest : goal.invariant-loop-rest
invariant-loop-rest l = Going l.kids l.n l.initial.out l.ws l.v l.p l.out l.rest × (l.p + l.rest ≤ l.n) × (2048 ≤ length l.ws) × (length l.ws ≡ length l.initial.ws) × (length l.out ≡ length l.initial.out)

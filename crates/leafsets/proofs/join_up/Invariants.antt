use lib.ListN.{drop, length}
use Rattle.leafsets.specs.Passes.{ups}
use Prim.Native.Nat.{◌≤◌}
use mathlib.Core.Path.{◌≡◌}
use Rattle.leafsets.proofs.join_up.Given as goal

abbrev pub invariant-loop-node : goal.invariant-loop-node
invariant-loop-node l = (l.node-index ≤ length l.order) × (length l.ws ≡ length l.initial.ws) × (ups l.w l.base l.kids l.n l.ws (drop l.node-index l.order) ≡ ups l.w l.base l.kids l.n l.initial.ws l.order)

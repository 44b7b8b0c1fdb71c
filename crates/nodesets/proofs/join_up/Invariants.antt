use Rattle.laws.specs.FlatLaws.{left_of, right_of}
use Rattle.nodesets.specs.Passes.{ups}
use Prim.Native.Nat.{◌≤◌}
use mathlib.Core.Path.{◌≡◌}
use lib.ListN.{length}
use Rattle.nodesets.proofs.join_up.Given as goal

abbrev pub invariant-loop-node : goal.invariant-loop-node
invariant-loop-node l = (l.node-index ≤ length l.order) × (length l.sets ≡ length l.initial.sets) × (l.sets ≡ ups l.w (left_of l.kids l.n) (right_of l.kids l.n) l.order l.initial.sets l.node-index)

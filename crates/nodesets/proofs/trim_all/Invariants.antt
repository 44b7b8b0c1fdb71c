use Rattle.nodesets.specs.Passes.{cuts}
use Prim.Native.Nat.{◌≤◌}
use mathlib.Core.Path.{◌≡◌}
use lib.ListN.{length}
use Rattle.nodesets.proofs.trim_all.Given as goal

abbrev pub invariant-loop-node : goal.invariant-loop-node
invariant-loop-node l = (l.node-index ≤ length l.order) × (length l.sets ≡ length l.initial.sets) × (l.sets ≡ cuts l.w l.order l.outside l.initial.sets l.node-index)

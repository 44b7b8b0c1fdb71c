use Rattle.slots.specs.Slots.{with_set_length}
use Rattle.nodesets.specs.Turns.{slot_in, step_inner, cuts_none, cuts_next}
use native.Mathlib.Omega.{arith}
use mathlib.Core.Path.{refl, ap, ◌∙◌}
use lib.ListN.{length}
use Rattle.nodesets.proofs.trim_all.Goals as goal

pub loop-node-init : goal.loop-node-init
loop-node-init c = (omega arith, refl, cuts_none _ _ _ _)

pub combine_with-requires : goal.combine_with-requires
combine_with-requires c = let i = step_inner c.requires.0 c.loop-node.node-index c.from-v.result (omega arith) c.from-v.ensures in (slot_in _ _ _ _ i.1 (omega arith), slot_in _ _ _ _ i.1 (omega arith), slot_in _ _ _ _ i.1 (omega arith))

pub loop-node-preserved : goal.loop-node-preserved
loop-node-preserved c = (omega arith, ap length c.combine_with.ensures ∙ with_set_length _ _ _ _ ∙ c.loop-node.invariant.1, cuts_next _ _ _ _ _ _ _ _ c.loop-node.invariant.2 c.from-v.ensures c.combine_with.ensures)

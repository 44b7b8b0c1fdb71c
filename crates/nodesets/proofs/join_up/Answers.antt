use Rattle.slots.specs.Slots.{with_set_length}
use Rattle.nodesets.specs.Turns.{step_inner, node_slot, left_slot, right_slot, ups_none, ups_next}
use Rattle.nodesets.specs.Passes.{nodes}
use native.Mathlib.Omega.{arith}
use Prim.Native.Nat.{◌*◌, ◌≤◌}
use mathlib.Core.Path.{refl, ap, ◌∙◌}
use lib.ListN.{length}
use Rattle.nodesets.proofs.join_up.Goals as goal

pub loop-node-init : goal.loop-node-init
loop-node-init c = (omega arith, refl, ups_none _ _ _ _ _)

pub left-l-requires : goal.left-l-requires
left-l-requires c = step_inner c.requires.0 c.loop-node.node-index _ (omega arith) c.from-v.ensures

pub right-r-requires : goal.right-r-requires
right-r-requires c = step_inner c.requires.0 c.loop-node.node-index _ (omega arith) c.from-v.ensures

pub join-requires : goal.join-requires
join-requires c = let k = c.loop-node.node-index in let w = c.from-v in let room : nodes c.args.n c.args.kids.now * c.args.w ≤ length c.loop-node.sets = omega arith in (left_slot c.requires.0 k _ (omega arith) w.ensures c.args.w c.left-l.ensures.0 room, right_slot c.requires.0 k _ (omega arith) w.ensures c.args.w c.right-r.ensures.0 room, node_slot c.requires.0 k _ (omega arith) w.ensures c.args.w room)

pub loop-node-preserved : goal.loop-node-preserved
loop-node-preserved c = (omega arith, ap length c.join.ensures ∙ with_set_length _ _ _ _ ∙ c.loop-node.invariant.1, ups_next _ _ _ _ _ _ _ _ _ _ _ c.loop-node.invariant.2 c.from-v.ensures c.left-l.ensures.0 c.right-r.ensures.0 c.join.ensures)

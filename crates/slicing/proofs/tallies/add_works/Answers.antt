use Rattle.nodesets.specs.Turns.{step_inner, left_slot, right_slot}
use Rattle.slicing.specs.Nodes.{step_works, steps_small, steps_next}
use native.Mathlib.Omega.{arith}
use Rattle.slicing.proofs.tallies.add_works.Goals as goal

pub left-l-requires : goal.left-l-requires
left-l-requires c = step_inner c.requires.steps c.loop-node.node-index _ (omega arith) c.from-v.ensures

pub right-r-requires : goal.right-r-requires
right-r-requires c = step_inner c.requires.steps c.loop-node.node-index _ (omega arith) c.from-v.ensures

pub bounds-list-v : goal.bounds-list-v
bounds-list-v c = let i = step_inner c.requires.steps c.loop-node.node-index _ (omega arith) c.from-v.ensures in omega (arith, i.1, c.requires.works_in)

pub exp2-requires : goal.exp2-requires
exp2-requires c = step_works c.requires c.loop-node.node-index c.from-v.result c.from.result (omega arith) c.from-v.ensures c.from.ensures

pub add_slots-requires : goal.add_slots-requires
add_slots-requires c = let l = c.loop-node in (omega (arith, l.invariant.same, c.requires.fits), left_slot c.requires.steps l.node-index _ (omega arith) c.from-v.ensures c.args.w c.left-l.ensures.0 c.requires.room, right_slot c.requires.steps l.node-index _ (omega arith) c.from-v.ensures c.args.w c.right-r.ensures.0 c.requires.room, steps_small c.requires l.node-index l.sums l.invariant, c.exp2.ensures.1)

pub loop-node-preserved : goal.loop-node-preserved
loop-node-preserved c = let l = c.loop-node in steps_next c.requires l.node-index c.from-v.result c.left-l.result c.right-r.result c.from.result c.exp2.result l.sums _ (omega arith) c.from-v.ensures c.left-l.ensures.0 c.right-r.ensures.0 c.from.ensures c.exp2.ensures.0 l.invariant c.add_slots.ensures

use Rattle.nodebits.specs.Stepped.{stepped_next, step_at, left_size, right_size}
use Rattle.nodesets.specs.Turns.{step_inner}
use native.Mathlib.Omega.{arith}
use mathlib.Core.Path.{◌∙◌}
use Rattle.nodebits.proofs.inner_bits.Goals as goal

pub left-l-requires : goal.left-l-requires
left-l-requires c = step_inner c.requires.0.steps c.loop-node.node-index _ (omega arith) c.from-v.ensures

pub right-r-requires : goal.right-r-requires
right-r-requires c = step_inner c.requires.0.steps c.loop-node.node-index _ (omega arith) c.from-v.ensures

pub bounds-sizes-l : goal.bounds-sizes-l
bounds-sizes-l c = let s = step_at c.requires.0 c.loop-node.node-index c.from-v.result c.left-l.result c.right-r.result (omega arith) c.from-v.ensures c.left-l.ensures.0 c.right-r.ensures.0 in omega (arith, s.left_high, c.loop-node.invariant.1.same_sizes)

pub bounds-sizes-r : goal.bounds-sizes-r
bounds-sizes-r c = let s = step_at c.requires.0 c.loop-node.node-index c.from-v.result c.left-l.result c.right-r.result (omega arith) c.from-v.ensures c.left-l.ensures.0 c.right-r.ensures.0 in omega (arith, s.right_high, c.loop-node.invariant.1.same_sizes)

pub step_bits-b-requires : goal.step_bits-b-requires
step_bits-b-requires c = let s = step_at c.requires.0 c.loop-node.node-index c.from-v.result c.left-l.result c.right-r.result (omega arith) c.from-v.ensures c.left-l.ensures.0 c.right-r.ensures.0 in (s.known, left_size c.requires.0 c.loop-node.node-index c.from-v.result c.left-l.result c.right-r.result (omega arith) c.from-v.ensures c.left-l.ensures.0 c.right-r.ensures.0 c.loop-node.invariant.1, right_size c.requires.0 c.loop-node.node-index c.from-v.result c.left-l.result c.right-r.result (omega arith) c.from-v.ensures c.left-l.ensures.0 c.right-r.ensures.0 c.loop-node.invariant.1, s.nested)

pub bounds-sizes-v : goal.bounds-sizes-v
bounds-sizes-v c = let s = step_at c.requires.0 c.loop-node.node-index c.from-v.result c.left-l.result c.right-r.result (omega arith) c.from-v.ensures c.left-l.ensures.0 c.right-r.ensures.0 in omega (arith, s.high, c.loop-node.invariant.1.same_sizes)

pub bounds-works-v : goal.bounds-works-v
bounds-works-v c = let s = step_at c.requires.0 c.loop-node.node-index c.from-v.result c.left-l.result c.right-r.result (omega arith) c.from-v.ensures c.left-l.ensures.0 c.right-r.ensures.0 in omega (arith, s.high, c.loop-node.invariant.1.same_works)

pub loop-node-preserved : goal.loop-node-preserved
loop-node-preserved c = let s = step_at c.requires.0 c.loop-node.node-index c.from-v.result c.left-l.result c.right-r.result (omega arith) c.from-v.ensures c.left-l.ensures.0 c.right-r.ensures.0 in let l = c.loop-node in let a = c.args in (omega arith, stepped_next a.w a.n a.kids.now a.order.now a.sets.now a.effective.now a.sizes.now a.works.now l.sizes l.works l.node-index c.from-v.result c.step_bits-b.result.size c.step_bits-b.result.work (omega arith) c.from-v.ensures s.low (omega (arith, s.high)) (omega (arith, s.high)) c.step_bits-b.ensures.1 (c.step_bits-b.ensures.0 ∙ rw (c.left-l.ensures.0, c.right-r.ensures.0)) l.invariant.1)

use Rattle.start.specs.Leaves.{leaves_none, leaves_next}
use native.Mathlib.Omega.{arith}
use Rattle.start.proofs.put_leaves.Goals as goal

pub loop-i-init : goal.loop-i-init
loop-i-init c = let d = c.args in (omega arith, leaves_none d.w d.counts.now d.legs.now d.leaves.now d.sets.now)

pub loop-i-preserved : goal.loop-i-preserved
loop-i-preserved c = let d = c.args in
    let l = c.loop-i in
    (omega arith, leaves_next d.w d.counts.now d.legs.now d.leaves.now d.sets.now l.sets _ l.i _ l.invariant.1 c.from.ensures c.put_leaf.ensures)

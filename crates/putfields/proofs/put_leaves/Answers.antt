use Rattle.putfields.specs.Leaves.{leaves_start, leaf_room, leaves_next}
use native.Mathlib.Omega.{arith}
use Rattle.putfields.proofs.put_leaves.Goals as goal

pub loop-i-init : goal.loop-i-init
loop-i-init c = leaves_start _ _ _ _ _

pub put_indices-next-requires : goal.put_indices-next-requires
put_indices-next-requires c = leaf_room c.requires.0 c.requires.1 c.loop-i.invariant (omega arith) c.leaf-leaf.ensures

pub loop-i-preserved : goal.loop-i-preserved
loop-i-preserved c = leaves_next c.loop-i.invariant (omega arith) c.leaf-leaf.ensures (rw c.number.ensures at c.put_indices-next.ensures)

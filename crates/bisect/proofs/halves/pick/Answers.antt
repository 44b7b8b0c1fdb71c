use Rattle.bisect.specs.Picks.{on_side, pick_none, pick_few, pick_next}
use Rattle.std.proofs.Common.{arith}
use Rattle.bisect.proofs.halves.pick.Goals as goal

pub loop-v-init : goal.loop-v-init
loop-v-init c = let a = c.args in pick_none (on_side a.left a.part.now) a.out.now a.leaves.now

pub pick_leaf-k-requires : goal.pick_leaf-k-requires
pick_leaf-k-requires c = let a = c.args in let l = c.loop-v in omega (arith, pick_few (on_side a.left a.part.now) a.out.now a.leaves.now l.v l.k l.out (omega arith) l.invariant, c.requires)

pub loop-v-preserved : goal.loop-v-preserved
loop-v-preserved c = let a = c.args in let l = c.loop-v in pick_next (on_side a.left a.part.now) a.out.now a.leaves.now l.v l.k l.out _ _ (omega arith) l.invariant c.pick_leaf-k.ensures.0 c.pick_leaf-k.ensures.1

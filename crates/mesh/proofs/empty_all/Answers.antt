use Rattle.mesh.specs.Entries.{emptied}
use Rattle.cells.specs.Loop.{turns_none, turns_next}
use native.Mathlib.Omega.{arith}
use mathlib.Core.Path.{sym}
use Rattle.mesh.proofs.empty_all.Goals as goal

pub loop-v-init : goal.loop-v-init
unfolding emptied
loop-v-init c = (omega arith, sym (turns_none _ _))

pub loop-v-preserved : goal.loop-v-preserved
unfolding emptied
loop-v-preserved c = let l = c.loop-v in (omega arith, turns_next _ _ l.v l.invariant.1 c.empty.ensures)

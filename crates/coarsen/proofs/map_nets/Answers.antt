use Rattle.coarsen.specs.Mapped.{mapped_net, mapped}
use Rattle.cells.specs.Loop.{turns_none, turns_next}
use native.Mathlib.Omega.{arith}
use mathlib.Core.Path.{sym}
use Rattle.coarsen.proofs.map_nets.Goals as goal

pub loop-e-init : goal.loop-e-init
unfolding mapped
loop-e-init c = (omega arith, sym (turns_none _ _))

pub loop-e-preserved : goal.loop-e-preserved
unfolding mapped
loop-e-preserved c = let a = c.args in let l = c.loop-e in (omega arith, turns_next (mapped_net a.nets a.coarse a.places.now) a.graph.now l.e l.invariant.1 c.map_net.ensures)

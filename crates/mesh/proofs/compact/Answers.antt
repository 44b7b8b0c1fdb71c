use Rattle.mesh.specs.Compact.{kept_of, net_kept, compacted}
use Rattle.cells.specs.Loop.{turns_none, turns_next}
use native.Mathlib.Omega.{arith}
use mathlib.Core.Path.{sym}
use Rattle.mesh.proofs.compact.Goals as goal

pub loop-e-init : goal.loop-e-init
unfolding compacted
loop-e-init c = (omega arith, sym (turns_none _ _), omega arith)

pub loop-e-preserved : goal.loop-e-preserved
unfolding compacted
loop-e-preserved c = let a = c.args in let l = c.loop-e in (omega arith, turns_next (net_kept a.nets a.weights.now) (kept_of a.graph.now a.kept.now 0) l.e l.invariant.1 c.keep_net-k.ensures.0, c.keep_net-k.ensures.1)

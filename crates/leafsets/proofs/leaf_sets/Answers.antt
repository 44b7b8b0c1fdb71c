use Rattle.leafsets.specs.Passes.{single_next, singles_none}
use native.Mathlib.Omega.{arith}
use Rattle.leafsets.proofs.leaf_sets.Goals as goal

pub loop-i-init : goal.loop-i-init
loop-i-init c = let a = c.args in (omega arith, singles_none a.w a.base a.ws.now)

pub loop-i-preserved : goal.loop-i-preserved
loop-i-preserved c = let a = c.args in (omega arith, single_next a.w a.base a.ws.now c.loop-i.i _ _ _ c.loop-i.invariant.1 c.empty.ensures c.insert.ensures)

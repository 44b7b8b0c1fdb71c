use Rattle.slicing.specs.Folds.{best_none, best_next}
use native.Mathlib.Omega.{arith}
use Rattle.slicing.proofs.ranks.Merits.best.Goals as goal

pub loop-j-init : goal.loop-j-init
loop-j-init c = (omega arith, best_none _ _)

pub loop-j-preserved : goal.loop-j-preserved
loop-j-preserved c = let l = c.loop-j in (omega arith, best_next _ _ l.j l.best _ l.invariant.1 c.consider-best.ensures)

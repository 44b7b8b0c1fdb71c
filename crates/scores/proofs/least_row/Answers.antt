use Rattle.scores.specs.Scores.{row_none, row_next}
use native.Mathlib.Omega.{arith}
use Rattle.scores.proofs.least_row.Goals as goal

pub loop-i-init : goal.loop-i-init
loop-i-init c = let d = c.args in
    let s = d.scoring.now in
    (omega arith, row_none d.sets.now s.width s.weights.now d.sizes.now s.start d.live.now d.y)

pub loop-i-preserved : goal.loop-i-preserved
loop-i-preserved c = let d = c.args in
    let s = d.scoring.now in
    let l = c.loop-i in
    (omega arith, row_next d.sets.now s.width s.weights.now d.sizes.now s.start d.live.now d.y l.i _ _ _ l.invariant.1 c.get_or-x.ensures c.consider-best.ensures)

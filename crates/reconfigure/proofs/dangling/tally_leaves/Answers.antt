use Rattle.reconfigure.specs.Tally.{rows_next, rows_end}
use native.Mathlib.Omega.{arith}
use Rattle.reconfigure.proofs.dangling.tally_leaves.Goals as goal

pub loop-i-preserved : goal.loop-i-preserved
loop-i-preserved c = let a = c.args in let l = c.loop-i in (omega arith, omega (arith, c.tally_row.auto, l.invariant.1), rows_next l.tally _ a.n l.i a.counts.now a.legs.now l.invariant.2 c.tally_row.new.tally _ (omega arith) c.leaf.ensures c.tally_row.ensures)

pub returns : goal.returns
returns c = let a = c.args in let l = c.loop-i in rows_end l.tally _ a.n l.i a.counts.now a.legs.now l.invariant.2 (omega arith)

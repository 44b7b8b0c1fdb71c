use Rattle.matching.specs.Order.{counted_next}
use Rattle.std.proofs.Common.{length-set, arith, ◌∙◌}
use Rattle.matching.proofs.count_up.Goals as goal

pub loop-k-preserved : goal.loop-k-preserved
loop-k-preserved c = let l = c.loop-k in (length-set l.order l.k l.k ∙ l.invariant.0, counted_next l.order l.k (omega (arith, l.invariant.0, c.loop-k-test.true)) l.invariant.1)

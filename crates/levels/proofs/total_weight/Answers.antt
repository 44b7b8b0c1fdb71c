use Rattle.levels.specs.Spans.{sum_next}
use Rattle.std.proofs.lemmas.List.{get_or_default}
use Rattle.spec.specs.Floats.{zero_float}
use Rattle.levels.proofs.total_weight.Goals as goal

pub loop-w-preserved : goal.loop-w-preserved
loop-w-preserved c = let l = c.loop-w in sum_next c.args.vw.now l.sum _ l.w-index c.loop-w-test.true l.invariant (get_or_default c.args.vw.now l.w-index _ zero_float c.loop-w-test.true)

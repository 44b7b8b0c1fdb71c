use Rattle.matching.specs.Choices.{choice_of, looked}
use Rattle.partition.specs.Folds.{fold_next}
use Rattle.spec.specs.Floats.{zero_float}
use Rattle.std.specs.Prelude.{None}
use Rattle.matching.proofs.choose.Goals as goal

pub loop-u-preserved : goal.loop-u-preserved
loop-u-preserved c = let a = c.args in let l = c.loop-u in
    fold_next (looked a.vw.now a.limit a.v) a.touched.now (choice_of zero_float None a.rating.now a.draws.now) (choice_of l.best.rating l.best.mate l.rating l.draws) _ l.u-index c.loop-u-test.true l.invariant c.look-best.ensures

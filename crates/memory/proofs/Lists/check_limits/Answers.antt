use Rattle.std.proofs.Common.{refl}
use Rattle.memory.specs.Promise.{lent_large}
use Rattle.memory.proofs.Lists.check_limits.Goals as goal

pub returns-then-large-clause-err : goal.returns-then-large-clause-err
returns-then-large-clause-err c =
    let a = c.args.self.now in
    (refl, lent_large a.weights.now a.leg_counts.now a.legs.now a.outputs.now c.too_large-large.ensures c.if-large.true)

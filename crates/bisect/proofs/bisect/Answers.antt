use Rattle.bisect.specs.Through.{halved}
use Rattle.std.proofs.Common.{arith}
use Rattle.bisect.proofs.bisect.Goals as goal

pub returns-clause-halved : goal.returns-clause-halved
returns-clause-halved c =
    (halved c.args.eps c.front_weight-total.result c.requires.0 (omega (arith, c.requires.1))
    c.front_weight-total.ensures c.side_limit-most_weight.ensures c.multilevel.ensures.through).0

pub returns-clause-sides : goal.returns-clause-sides
returns-clause-sides c =
    (halved c.args.eps c.front_weight-total.result c.requires.0 (omega (arith, c.requires.1))
    c.front_weight-total.ensures c.side_limit-most_weight.ensures c.multilevel.ensures.through).1

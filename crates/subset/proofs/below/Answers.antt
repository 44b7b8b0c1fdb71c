use Rattle.subset.specs.Considers.{power_large}
use native.Mathlib.Omega.{arith}
use Rattle.subset.proofs.below.Goals as goal

pub returns-else-bits-lt53 : goal.returns-else-bits-lt53
returns-else-bits-lt53 c = power_large c.args.bits c.args.room (omega arith) (omega arith)

use Rattle.bisect.specs.Cases.{small_is}
use Rattle.bisect.proofs.ends.small_end.Goals as goal

pub returns : goal.returns
returns c = λ N b s. small_is (c.plan_leaves.ensures.planned N b s)

use Rattle.spec.specs.Memory.{filled}
use Rattle.frontier.proofs.Frontier.of.Goals as goal

pub returns : goal.returns
unfolding filled
returns c = c.open_all-count.ensures.opens

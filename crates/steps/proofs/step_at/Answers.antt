use Rattle.steps.specs.Records.{step_at}
use Rattle.steps.proofs.step_at.Goals as goal

pub returns : goal.returns
unfolding step_at
returns c = λ t. record {
  node = c.get_or.ensures t;
  left = c.get_or-2.ensures t;
  right = c.get_or-3.ensures t;
  work = c.get_or-4.ensures t;
  size = c.get_or-5.ensures t;
}

use Rattle.scores.specs.Scores.{key_at}
use native.Mathlib.Omega.{arith}
use Rattle.scores.proofs.score.Goals as goal

pub returns : goal.returns
unfolding key_at
returns c =
    record {
      raised = omega (arith, c.exp2.ensures.0, c.takes.ensures.0, c.takes.ensures.1);
      first = c.first.ensures;
      second = c.second.ensures;
    }

use Rattle.frontier.specs.Ranks.{Ranking}
use Rattle.frontier.proofs.most_work.Given as goal

abbrev pub invariant-loop-p : goal.invariant-loop-p
invariant-loop-p l = Ranking l.n l.works l.members l.most l.p

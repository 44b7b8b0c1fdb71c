use Rattle.planning.specs.Stages.{started_given, started_greedy}
use Rattle.network.specs.Record.{net_of}
use native.Mathlib.Omega.{arith}
use Rattle.planning.proofs.start.Goals as goal

pub returns-in-Some : goal.returns-in-Some
returns-in-Some c = let a = c.args in rw c.in-Some.is (started_given (net_of a.network.now) a.tree.now)

pub returns-in-None : goal.returns-in-None
returns-in-None c = let a = c.args in rw c.in-None.is (started_greedy (net_of a.network.now) a.tree.now _ c.requires (omega arith) c.plan.ensures.answer c.plan.ensures.plan)

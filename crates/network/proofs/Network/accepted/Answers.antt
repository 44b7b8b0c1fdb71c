use Rattle.network.specs.Record.{net_of}
use Rattle.network.proofs.Network.accepted.Goals as goal

pub returns-clause-ok : goal.returns-clause-ok
unfolding net_of
returns-clause-ok c = c.of_counts.ensures.ok

pub returns-clause-err : goal.returns-clause-err
unfolding net_of
returns-clause-err c = c.of_counts.ensures.err

use Rattle.network.specs.Record.{net_of}
use Rattle.network.specs.Layouts.{layout_empty}
use Rattle.network.proofs.Network.empty.Goals as goal

pub returns : goal.returns
unfolding net_of
returns c = layout_empty _ _ _ _

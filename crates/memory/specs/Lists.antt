-- The network that lists stand for which a host lends whole. Assumes nothing.
use Rattle.spec.specs.Network.{Network}
use Rattle.spec.specs.Host.{lent_network}
use Rattle.memory.specs.declared.Lists.{Lists}

abbrev pub net_lent : Lists → Network
net_lent l = lent_network l.weights.now l.leg_counts.now l.legs.now l.outputs.now

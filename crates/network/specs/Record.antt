-- What a record stands for. Assumes nothing.
use Rattle.spec.specs.Layout.{network_of}
use Rattle.spec.specs.Network.{Network}
use Rattle.network.specs.declared.Network.{Network as Record}

-- the network of a record, whatever it holds
unfoldable pub net_of : Record → Network
net_of r = network_of r.index_count r.leaf_count r.output_count r.weights r.leg_counts r.legs r.outputs

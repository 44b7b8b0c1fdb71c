use Rattle.netwrite.specs.Writes.{weights_room, leaves_room, outputs_room, network_put}
use Rattle.netwrite.proofs.put_network.Goals as goal

pub put_bytes-leaves-requires : goal.put_bytes-leaves-requires
put_bytes-leaves-requires c = let a = c.args.network.now in
    weights_room a a.holds c.args.out.now c.args.at c.requires

pub put_leaves_of-last-requires : goal.put_leaves_of-last-requires
put_leaves_of-last-requires c = let a = c.args.network.now in
    leaves_room a a.holds c.args.out.now c.args.at c.requires (rw c.number.ensures at c.put_bytes-leaves.ensures)

pub put_indices-requires : goal.put_indices-requires
put_indices-requires c = let a = c.args.network.now in
    outputs_room a a.holds c.args.out.now c.args.at c.requires (rw c.number.ensures at c.put_bytes-leaves.ensures) c.put_leaves_of-last.ensures

pub returns : goal.returns
returns c = let a = c.args.network.now in
    network_put a a.holds c.args.out.now c.args.at c.requires (rw c.number.ensures at c.put_bytes-leaves.ensures) c.put_leaves_of-last.ensures (rw c.number-2.ensures at c.put_indices.ensures)

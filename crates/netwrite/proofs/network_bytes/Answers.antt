use Rattle.netwrite.specs.Sizes.{network_fields_length, accepted_few}
use Rattle.network.specs.Views.{in_indices}
use lib.ListN.{length}
use native.Mathlib.Omega.{arith}
use Rattle.netwrite.proofs.network_bytes.Goals as goal

pub leaf_bytes-requires : goal.leaf_bytes-requires
leaf_bytes-requires c = let a = c.args.network.now in accepted_few a a.holds

pub returns : goal.returns
returns c = let a = c.args.network.now in
    omega (arith, c.index_count.ensures, in_indices a, c.leaf_bytes.ensures.0, network_fields_length (length a.weights.now) (length a.leg_counts.now) (length a.outputs.now) a.weights.now a.leg_counts.now a.legs.now a.outputs.now)

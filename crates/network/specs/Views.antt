-- The network that an accepted network's lists stand for, and what holds of it. Assumes nothing.
use Rattle.std.specs.Prelude.{◌≡◌, length}
use Rattle.std.proofs.Common.{arith}
use Rattle.spec.specs.Network.{Network, leaf_count, index_count}
use Rattle.network.specs.Lists.{lists_net, Holds}
use Rattle.network.specs.Layouts.{layout_leaf_count, layout_index_count}
use Rattle.network.specs.Checks.{Rows}
use Rattle.network.specs.Codes.{Facts, passed_facts}
use Rattle.network.specs.declared.accepted.Accepted.{Accepted}

abbrev pub net_in : Accepted → Network
net_in a = lists_net a.weights.now a.leg_counts.now a.legs.now a.outputs.now

module _ (a : Accepted) (h : Holds a.weights.now a.leg_counts.now a.legs.now a.outputs.now) where
  -- what that means of the lists
  pub in_facts : Facts (length a.weights.now) (length a.leg_counts.now) (length a.outputs.now) a.weights.now a.leg_counts.now a.legs.now a.outputs.now
  in_facts = passed_facts _ _ _ _ _ _ _ h.passed

  -- each leaf has a row of places that its indices are in
  pub in_rows : Rows (length a.leg_counts.now) a.leg_counts.now a.legs.now
  in_rows = record { counted = omega arith; room = h.rows in_facts.few_leaves; few = in_facts.few_legs }

pub in_leaves : (a : Accepted) → leaf_count (net_in a) ≡ length a.leg_counts.now
in_leaves a = layout_leaf_count _ _ _ _ _ _ _

pub in_indices : (a : Accepted) → index_count (net_in a) ≡ length a.weights.now
in_indices a = layout_index_count _ _ _ _ _ _ _

use Rattle.pricing.specs.Fronts.{has_fronts, are_fronts, fronts_leaves, fronts_order}
use Rattle.slicing.specs.Fronts.{turn_fronts_outside, turn_fronts_within, turn_fronts}
use Rattle.slicing.proofs.fronts.turn.Goals as goal

pub padded_outputs-outputs-requires : goal.padded_outputs-outputs-requires
padded_outputs-outputs-requires c = has_fronts c.requires.priceable

pub network-network-requires-clause-fronts : goal.network-network-requires-clause-fronts
network-network-requires-clause-fronts c = has_fronts c.requires.priceable

pub tree-tree-requires : goal.tree-tree-requires
tree-tree-requires c = has_fronts c.requires.priceable

pub turn-requires-clause-leaves : goal.turn-requires-clause-leaves
turn-requires-clause-leaves c =
    let f = are_fronts c.network-network.ensures c.tree-tree.ensures in
    fronts_leaves c.requires.priceable f

pub turn-requires-clause-order : goal.turn-requires-clause-order
turn-requires-clause-order c =
    let f = are_fronts c.network-network.ensures c.tree-tree.ensures in
    fronts_order c.requires.priceable f

pub turn-requires-clause-outside : goal.turn-requires-clause-outside
turn-requires-clause-outside c =
    let f = are_fronts c.network-network.ensures c.tree-tree.ensures in
    turn_fronts_outside c.requires.priceable f _ c.requires.room

pub turn-requires-clause-within : goal.turn-requires-clause-within
turn-requires-clause-within c =
    let f = are_fronts c.network-network.ensures c.tree-tree.ensures in
    turn_fronts_within c.requires.priceable f c.requires.within

pub returns : goal.returns
returns c =
    let f = are_fronts c.network-network.ensures c.tree-tree.ensures in
    turn_fronts c.requires.priceable f c.turn.ensures

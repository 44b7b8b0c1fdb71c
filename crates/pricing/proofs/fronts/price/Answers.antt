use Rattle.pricing.specs.Fronts.{has_fronts, are_fronts, fronts_leaves, fronts_order, fronts_fit, fronts_outside, fronts_room, fronts_steps, fronts_pricing}
use Rattle.pricing.proofs.fronts.price.Goals as goal

pub padded_outputs-outputs-requires : goal.padded_outputs-outputs-requires
padded_outputs-outputs-requires c = has_fronts c.requires.priceable

pub network-network-requires-clause-fronts : goal.network-network-requires-clause-fronts
network-network-requires-clause-fronts c = has_fronts c.requires.priceable

pub tree-tree-requires : goal.tree-tree-requires
tree-tree-requires c = has_fronts c.requires.priceable

pub price_listed-requires-clause-fits : goal.price_listed-requires-clause-fits
price_listed-requires-clause-fits c =
    let f = are_fronts c.network-network.ensures c.tree-tree.ensures in
    fronts_fit c.requires.priceable f

pub price_listed-requires-clause-leaves : goal.price_listed-requires-clause-leaves
price_listed-requires-clause-leaves c =
    let f = are_fronts c.network-network.ensures c.tree-tree.ensures in
    fronts_leaves c.requires.priceable f

pub price_listed-requires-clause-order : goal.price_listed-requires-clause-order
price_listed-requires-clause-order c =
    let f = are_fronts c.network-network.ensures c.tree-tree.ensures in
    fronts_order c.requires.priceable f

pub price_listed-requires-clause-outside : goal.price_listed-requires-clause-outside
price_listed-requires-clause-outside c =
    let f = are_fronts c.network-network.ensures c.tree-tree.ensures in
    fronts_outside c.requires.priceable f c.requires.room.for_outside

pub price_listed-requires-clause-room : goal.price_listed-requires-clause-room
price_listed-requires-clause-room c =
    let f = are_fronts c.network-network.ensures c.tree-tree.ensures in
    let r = c.requires.room in
    fronts_room c.requires.priceable f (record { for_sets = r.for_sets; for_sizes = r.for_sizes; for_works = r.for_works })

pub price_listed-requires-clause-steps : goal.price_listed-requires-clause-steps
price_listed-requires-clause-steps c =
    let f = are_fronts c.network-network.ensures c.tree-tree.ensures in
    fronts_steps c.requires.priceable f c.requires.room.for_steps

pub returns-clause-pricing : goal.returns-clause-pricing
returns-clause-pricing c =
    let f = are_fronts c.network-network.ensures c.tree-tree.ensures in
    fronts_pricing c.requires.priceable f c.price_listed.ensures.pricing

use Rattle.slots.specs.Rising.{listed_fits, listed_all}
use Rattle.growth.specs.Grown.{turned_end, turned_on}
use Rattle.std.proofs.Common.{arith, ◌+◌, refl, sym, length, length-take-le}
use lib.Ieee.{of_bits}
use Rattle.growth.proofs.grow.Goals as goal

pub returns-then-goal-weight-clause-turned : goal.returns-then-goal-weight-clause-turned
unfolding of_bits
returns-then-goal-weight-clause-turned c =
    let a = c.args in let g = a.graph.now in
    turned_end g.words.now g.layout.nets g.layout.vertices g.layout.net_count (length g.layout.vertex_weights.now) g.layout.net_weights.now g.layout.vertex_weights.now g.meshed a.v a.draws.now a.part.now _ a.links.now a.former _ c.get_or.result a.goal c.put.ensures c.get_or.ensures refl c.requires.2 c.if-goal-weight.true

pub slice_bounds-list-end : goal.slice_bounds-list-end
slice_bounds-list-end c = let a = c.args in let g = a.graph.now in let m = c.members-len in listed_fits g.words.now _ _ 4 (g.layout.vertices + a.v) m.result m.ensures.0 m.ensures.1 (omega arith)

pub returns-clause-turned : goal.returns-clause-turned
unfolding of_bits
returns-clause-turned c =
    let a = c.args in let g = a.graph.now in let m = c.members-len in let s = c.strongest-best in
    turned_on g.words.now g.layout.nets g.layout.vertices g.layout.net_count (length g.layout.vertex_weights.now) g.layout.net_weights.now g.layout.vertex_weights.now g.meshed a.v a.draws.now a.part.now _ a.links.now a.former _ c.get_or.result a.goal c.put.ensures c.get_or.ensures refl c.requires.2 _ _ m.result _ s.result.vertex s.result.link c.requires.0 refl (omega (arith, c.link_nets.auto.links, c.requires.1)) c.if-goal-weight.false (listed_all g.words.now _ _ 4 (g.layout.vertices + a.v) m.result m.ensures.0 m.ensures.1 (omega arith)) c.link_nets.ensures s.ensures.strongest

pub slice_bounds-link_nets-end : goal.slice_bounds-link_nets-end
slice_bounds-link_nets-end c = let a = c.args in let g = a.graph.now in let m = c.members-len in sym (length-take-le m.result m.new.out (listed_fits g.words.now _ _ 4 (g.layout.vertices + a.v) m.result m.ensures.0 m.ensures.1 (omega arith)))

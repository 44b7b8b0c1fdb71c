use Rattle.matching.specs.Meshed.{all_matched, order_below, front_long}
use native.Mathlib.Omega.{arith}
use mathlib.Core.Path.{refl}
use lib.ListN.{length, take, replicate}
use Rattle.matching.proofs.match_all.Goals as goal

pub match_in_order-requires : goal.match_in_order-requires
match_in_order-requires c = let p = c.requires in let a = c.args in let g = a.graph.now in (omega arith, order_below g.words.now g.layout.nets g.layout.vertices g.layout.net_count (length g.layout.vertex_weights.now) g.layout.net_weights.now g.layout.vertex_weights.now a.limit g.meshed a.draws.now _ (take (length g.layout.vertex_weights.now) (replicate 128 0)) _ _ p.0 (front_long (length g.layout.vertex_weights.now) g.meshed.few.1) c.count_up.ensures c.shuffle.ensures)

pub returns : goal.returns
returns c = let p = c.requires in let a = c.args in let g = a.graph.now in all_matched g.words.now g.layout.nets g.layout.vertices g.layout.net_count (length g.layout.vertex_weights.now) g.layout.net_weights.now g.layout.vertex_weights.now a.limit g.meshed a.draws.now _ _ (take (length g.layout.vertex_weights.now) (replicate 128 0)) _ _ a.mates.now _ _ refl (front_long (length g.layout.vertex_weights.now) g.meshed.few.1) p.1 c.count_up.ensures c.shuffle.ensures c.fill.ensures c.match_in_order.ensures

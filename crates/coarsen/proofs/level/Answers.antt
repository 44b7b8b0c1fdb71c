use Rattle.coarsen.specs.Level.{coarser_made, count_fits}
use Rattle.coarsen.proofs.level.Goals as goal

pub returns : goal.returns
returns c = let p = c.requires in let a = c.args in let y = a.layout.now in let j = c.join_all-n in let o = c.map_nets in let b = c.mesh-k in (coarser_made a.words.now _ _ y.nets a.slots.nets a.slots.vertices y.net_count y.net_weights.now _ y.vertex_weights.now a.vw2.now _ a.mates.now a.places.now _ b.result j.result (p.0, p.1) p.2 p.3 (p.4, p.5) p.7 p.8 p.9 j.ensures.0 o.ensures b.ensures, count_fits a.words.now _ _ y.nets a.slots.nets a.slots.vertices y.net_count y.net_weights.now _ y.vertex_weights.now a.vw2.now _ a.mates.now a.places.now _ b.result j.result (p.0, p.1) p.2 p.3 (p.4, p.5) p.7 p.8 p.9 j.ensures.0 o.ensures b.ensures)

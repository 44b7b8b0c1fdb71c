use Rattle.mesh.specs.Mesh.{built}
use Rattle.mesh.proofs.mesh.Goals as goal

pub returns : goal.returns
returns c = let p = c.requires in let a = c.args in built a.words.now _ _ a.place.now.nets a.place.now.vertices a.weights.now a.kept.now _ a.place.now.net_count a.place.now.vertex_count c.compact-count.result (p.1, p.2) p.3 p.4 p.5 c.compact-count.ensures.0 c.cross.ensures

use Rattle.bisect.specs.Whole.{is_of}
use Rattle.ratings.specs.Rated.{one_whole}
use Rattle.spec.specs.Memory.{filled}
use lib.Ieee.{of_bits}
use mathlib.Core.Path.{ap, ◌∙◌}
use lib.ListN.{length}
use Rattle.bisect.proofs.hypergraph.hypergraph_of.Goals as goal

pub returns : goal.returns
unfolding of_bits
returns c = let p = c.requires in let a = c.args in λ N h. is_of N a.weights.now a.leg_counts.now a.legs.now a.leaves.now h a.words.now _ _ a.slots.nets a.slots.vertices _ c.mesh.result a.vw.now _ (p.0, p.1) p.2 p.4 p.5 c.put_leaves.ensures c.mesh.ensures (c.fill.ensures ∙ ap (filled (length a.vw.now)) one_whole)

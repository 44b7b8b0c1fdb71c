use Rattle.matching.specs.Graphs.{graph_of}
use Rattle.spec.specs.Coarsen.{matched}
use Rattle.spec.specs.Hypergraph.{fold_over}
use Rattle.spec.specs.Draws.{drawn}
use Rattle.std.proofs.Common.{◌≡◌, take, length}
use Rattle.matching.proofs.match_in_order.Given as goal

abbrev pub invariant-loop-v : goal.invariant-loop-v
invariant-loop-v l = (drawn l.mates l.draws ≡ fold_over (matched (graph_of l.graph) l.limit) (take l.v-index l.order) (drawn l.initial.mates l.initial.draws)) × (length l.touched ≡ length l.initial.touched)

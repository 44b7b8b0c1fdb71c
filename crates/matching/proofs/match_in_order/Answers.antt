use Rattle.matching.specs.Graphs.{graph_of}
use Rattle.partition.specs.Folds.{fold_next}
use Rattle.spec.specs.Coarsen.{matched}
use Rattle.spec.specs.Draws.{drawn}
use Rattle.std.proofs.Common.{rules, ap, ◌∙◌, ℕ}
use Rattle.matching.proofs.match_in_order.Goals as goal

pub loop-v-preserved : goal.loop-v-preserved
loop-v-preserved c = let a = c.args in let l = c.loop-v in let G = graph_of a.graph.now in (
  fold_next (matched G a.limit) a.order.now (drawn a.mates.now a.draws.now) (drawn l.mates l.draws) _ l.v-index c.loop-v-test.true l.invariant.0 (c.match_vertex.ensures ∙ ap (λ (v : ℕ). matched G a.limit v (drawn l.mates l.draws)) c.from.ensures),
  search rules,
)

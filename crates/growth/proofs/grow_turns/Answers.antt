use Rattle.growth.specs.Grown.{growth_of, grown_next}
use Rattle.matching.specs.Graphs.{graph_of}
use Rattle.std.proofs.Common.{rules, arith, ◌+◌, length}
use Rattle.growth.proofs.grow_turns.Goals as goal

pub loop-k-preserved : goal.loop-k-preserved
loop-k-preserved c =
    let a = c.args in let l = c.loop-k in let o = c.grow_on-g.ensures in let g = a.graph.now in (
      grown_next (graph_of g) (length g.layout.vertex_weights.now + 1) l.k (growth_of a.part.now a.growth.weight a.links.now a.growth.next a.draws.now) (growth_of l.part l.g.weight l.links l.g.next l.draws) _ (omega (arith, c.loop-k-test.true)) l.invariant.0 o.turned,
      o.below,
      search rules,
    )

use Rattle.growth.specs.Grown.{growth_of, grown_from}
use Rattle.matching.specs.Graphs.{graph_of}
use Rattle.std.proofs.Common.{◌+◌, ◌-◌, ◌<◌, ◌≡◌, length, IfSome}
use Rattle.growth.proofs.grow_turns.Given as goal

abbrev pub invariant-loop-k : goal.invariant-loop-k
invariant-loop-k l =
    (grown_from (graph_of l.graph) (length l.graph.layout.vertex_weights.now + 1) (growth_of l.initial.part l.initial.g.weight l.initial.links l.initial.g.next l.initial.draws) ≡ grown_from (graph_of l.graph) ((length l.graph.layout.vertex_weights.now + 1) - l.k) (growth_of l.part l.g.weight l.links l.g.next l.draws))
    × IfSome l.g.next (λ v. v < length l.graph.layout.vertex_weights.now) × (length l.links ≡ length l.initial.links)

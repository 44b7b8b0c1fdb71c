use Rattle.std.proofs.Common.{◌+◌, ◌≤◌}
use Rattle.bits.specs.Lowest.{places}
use Rattle.queue.specs.Queues.{queue_in}
use Rattle.fm.specs.Words.{Before, EnteringNets}
use Rattle.fm.proofs.enter_neighbours.Given as goal

abbrev pub invariant-loop-k : goal.invariant-loop-k
invariant-loop-k l = (l.k ≤ 4)
    × Before l.graph.words.now l.graph.place l.graph.weights.now l.locked (l.graph.place.vertices + l.v) l.k (queue_in l.initial.entries l.initial.draws) (queue_in l.entries l.draws)

abbrev pub invariant-loop-e : goal.invariant-loop-e
invariant-loop-e l = (goal.iterator-loop-e).can_next l.e-iterator
    × EnteringNets l.graph.words.now l.graph.place l.graph.weights.now l.locked (l.graph.place.vertices + l.v) l.k (queue_in l.fn.entries l.fn.draws) (places l.e-iterator.base 64 l.e-iterator.rest) (queue_in l.entries l.draws)

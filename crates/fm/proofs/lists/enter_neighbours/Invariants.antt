use Rattle.std.proofs.Common.{◌+◌, ◌≤◌}
use Rattle.bits.specs.Lowest.{places}
use Rattle.queue.specs.Queues.{queue_of}
use Rattle.fm.specs.Words.{Before, EnteringNets}
use Rattle.fm.proofs.lists.enter_neighbours.Given as goal

abbrev pub invariant-loop-k : goal.invariant-loop-k
invariant-loop-k l = (l.k ≤ 4)
    × Before l.graph.words.now l.graph.place l.graph.weights.now l.locked (l.graph.place.vertices + l.v) l.k (queue_of l.initial.keys l.initial.stamps l.initial.waiting l.initial.draws) (queue_of l.keys l.stamps l.waiting l.draws)

abbrev pub invariant-loop-e : goal.invariant-loop-e
invariant-loop-e l = (goal.iterator-loop-e).can_next l.e-iterator
    × EnteringNets l.graph.words.now l.graph.place l.graph.weights.now l.locked (l.graph.place.vertices + l.v) l.k (queue_of l.fn.keys l.fn.stamps l.fn.waiting l.fn.draws) (places l.e-iterator.base 64 l.e-iterator.rest) (queue_of l.keys l.stamps l.waiting l.draws)

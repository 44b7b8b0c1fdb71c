use Rattle.bits.specs.Lowest.{places}
use Rattle.queue.specs.Queues.{queue_of}
use Rattle.fm.specs.Words.{Entering}
use Rattle.fm.proofs.lists.enter_word.Given as goal

abbrev pub invariant-loop-u : goal.invariant-loop-u
invariant-loop-u l = (goal.iterator-loop-u).can_next l.u-iterator
    × Entering l.graph.words.now l.graph.place l.graph.weights.now l.locked (places l.base 64 l.pins) (queue_of l.initial.keys l.initial.stamps l.initial.waiting l.initial.draws) (places l.u-iterator.base 64 l.u-iterator.rest) (queue_of l.keys l.stamps l.waiting l.draws)

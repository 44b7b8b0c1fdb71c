use Rattle.std.proofs.Common.{◌≡◌, ◌≤◌, length}
use Rattle.queue.specs.Enters.{AllEntered}
use Rattle.queue.specs.Queues.{queue_of}
use Rattle.queue.proofs.lists.enter_all.Given as goal

abbrev pub invariant-loop-v : goal.invariant-loop-v
invariant-loop-v l = (l.v ≤ l.v-end) × (l.v-end ≡ l.graph.place.vertex_count)
    × (length l.keys ≡ length l.initial.keys) × (length l.stamps ≡ length l.initial.stamps) × (length l.waiting ≡ length l.initial.waiting)
    × AllEntered l.graph.words.now l.graph.place l.graph.weights.now l.v (queue_of l.initial.keys l.initial.stamps l.initial.waiting l.initial.draws) (queue_of l.keys l.stamps l.waiting l.draws)

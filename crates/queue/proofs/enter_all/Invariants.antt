use Rattle.std.proofs.Common.{◌≡◌, ◌≤◌, length}
use Rattle.queue.specs.Enters.{AllEntered}
use Rattle.queue.specs.Queues.{queue_in}
use Rattle.queue.proofs.enter_all.Given as goal

abbrev pub invariant-loop-v : goal.invariant-loop-v
invariant-loop-v l = (l.v ≤ l.v-end) × (l.v-end ≡ l.graph.place.vertex_count) × (length l.entries ≡ length l.initial.entries)
    × AllEntered l.graph.words.now l.graph.place l.graph.weights.now l.v (queue_in l.initial.entries l.initial.draws) (queue_in l.entries l.draws)

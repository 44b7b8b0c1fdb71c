use Rattle.std.proofs.Common.{◌≡◌, ◌<◌, length, IfSome}
use Rattle.spec.specs.Hypergraph.{fold_over}
use Rattle.spec.specs.Fm.{offered}
use Rattle.bits.specs.Lowest.{places}
use Rattle.queue.specs.Queues.{queue_in, no_words, first_of}
use Rattle.queue.proofs.offer_word.Given as goal

abbrev pub invariant-loop-v : goal.invariant-loop-v
invariant-loop-v l =
    let q = queue_in l.entries no_words in
    (goal.iterator-loop-v).can_next l.v-iterator
    × IfSome l.first (λ b. b < length l.entries)
    × (fold_over (offered q) (places l.v-iterator.base 64 l.v-iterator.rest) (first_of q l.first) ≡ fold_over (offered q) (places l.base 64 l.x) (first_of q l.fn.best))

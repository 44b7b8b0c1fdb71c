use Rattle.std.proofs.Common.{◌≡◌, ◌<◌}
use Rattle.spec.specs.Members.{All}
use Rattle.spec.specs.Hypergraph.{fold_over}
use Rattle.bits.specs.Lowest.{places}
use Rattle.partition.specs.Layout.{gain_step}
use Rattle.partition.proofs.graph.Hypergraph.gain_word.Given as goal

abbrev pub invariant-loop-e : goal.invariant-loop-e
invariant-loop-e l =
    let f = gain_step l.self.words.now l.self.place.nets l.here.slot l.there.slot l.self.weights.now in
    (goal.iterator-loop-e).can_next l.e-iterator
    × (fold_over f (places l.e-iterator.base 64 l.e-iterator.rest) l.sum ≡ fold_over f (places l.base 64 l.x) l.g)
    × All (λ j. j < 65536) (places l.e-iterator.base 64 l.e-iterator.rest)

use Rattle.std.proofs.Common.{◌+◌, ◌<◌}
use Rattle.std.specs.Prelude.{map}
use Rattle.spec.specs.Members.{All}
use Rattle.bits.specs.Lowest.{places}
use Rattle.slicing.specs.Words.{Adding}
use Rattle.slicing.proofs.tallies.add_word.Given as goal

abbrev pub invariant-loop-i : goal.invariant-loop-i
invariant-loop-i l =
    (goal.iterator-loop-i).can_next l.i-iterator
    × Adding l.amount l.fn.sums l.base l.x l.sums (map (λ i. l.base + i) (places l.i-iterator.base 64 l.i-iterator.rest))
    × All (λ i. i < 64) (places l.i-iterator.base 64 l.i-iterator.rest)

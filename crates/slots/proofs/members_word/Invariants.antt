use Rattle.std.proofs.Common.{◌<◌}
use Rattle.spec.specs.Members.{All}
use Rattle.bits.specs.Lowest.{places}
use Rattle.slots.specs.Rising.{Putting}
use Rattle.slots.proofs.members_word.Given as goal

abbrev pub invariant-loop-i : goal.invariant-loop-i
invariant-loop-i l = (goal.iterator-loop-i).can_next l.i-iterator × Putting l.fn.out l.at l.base l.x l.out l.n (places l.i-iterator.base 64 l.i-iterator.rest) × All (λ j. j < 65536) (places l.i-iterator.base 64 l.i-iterator.rest)

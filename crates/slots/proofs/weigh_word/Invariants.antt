use Rattle.std.proofs.Common.{◌≡◌, ◌+◌}
use Rattle.spec.specs.Lists.{sum_of}
use Rattle.bits.specs.Lowest.{places}
use Rattle.slots.specs.Weigh.{open_weight}
use Rattle.slots.proofs.weigh_word.Given as goal

abbrev pub invariant-loop-i : goal.invariant-loop-i
invariant-loop-i l =
    (goal.iterator-loop-i).can_next l.i-iterator
    × (l.sum + sum_of (open_weight l.weights l.flags) (places l.i-iterator.base 64 l.i-iterator.rest) ≡ sum_of (open_weight l.weights l.flags) (places l.base 64 l.x))

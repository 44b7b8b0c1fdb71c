use Rattle.coarsen.specs.Mapped.{images}
use Rattle.slots.specs.Writes.{and_all}
use Rattle.slots.specs.Slots.{with_set}
use Rattle.std.proofs.Common.{◌≡◌}
use Rattle.coarsen.proofs.put_coarse.Given as goal

abbrev pub invariant-loop-v : goal.invariant-loop-v
invariant-loop-v l = l.graph ≡ with_set l.initial.graph 2 l.s (and_all l.initial.graph 2 l.s (images l.places l.pins) 0 l.v-index)

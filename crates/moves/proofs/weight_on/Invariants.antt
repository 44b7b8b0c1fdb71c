use Rattle.std.proofs.Common.{◌≡◌, ◌≤◌, length}
use Rattle.spec.specs.Floats.{zero_float}
use Rattle.spec.specs.Hypergraph.{fold_over}
use Rattle.spec.specs.Lists.{range}
use Rattle.moves.specs.Sums.{weigh_step}
use Rattle.moves.proofs.weight_on.Given as goal

abbrev pub invariant-loop-v : goal.invariant-loop-v
invariant-loop-v l = (l.v ≤ length l.vw) × (l.sum ≡ fold_over (weigh_step l.part l.vw l.s) (range l.v) zero_float)

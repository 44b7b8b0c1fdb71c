use Rattle.moves.specs.Laying.{Laying}
use Rattle.moves.proofs.lay_sides.Given as goal

abbrev pub invariant-loop-v : goal.invariant-loop-v
invariant-loop-v l = Laying l.initial.graph l.graph l.sides l.part l.v

use Rattle.bisect.specs.Picks.{on_side, Picking}
use Rattle.bisect.proofs.halves.pick.Given as goal

abbrev pub invariant-loop-v : goal.invariant-loop-v
invariant-loop-v l = Picking (on_side l.left l.part) l.initial.out l.leaves l.v l.k l.out

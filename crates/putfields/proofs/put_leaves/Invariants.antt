use Rattle.putfields.specs.Leaves.{PutLeaves}
use Rattle.putfields.proofs.put_leaves.Given as goal

abbrev pub invariant-loop-i : goal.invariant-loop-i
invariant-loop-i l = PutLeaves l.initial.out l.out l.at l.next l.n l.i l.counts l.legs

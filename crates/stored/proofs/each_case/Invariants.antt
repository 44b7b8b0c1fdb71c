use Rattle.stored.specs.Cases.{GiveOk}
use Rattle.stored.proofs.each_case.Given as goal

-- so many cases were run as are counted
abbrev pub invariant-loop : goal.invariant-loop
invariant-loop g l = GiveOk g.F.Fn l.run l.counter (l.initial.input, l.initial.out) (l.input, l.out)

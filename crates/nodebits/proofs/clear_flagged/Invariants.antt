use Rattle.std.proofs.Common.{take}
use Rattle.nodebits.specs.Loops.{Clearing}
use Rattle.nodebits.proofs.clear_flagged.Given as goal

abbrev pub invariant-loop-j : goal.invariant-loop-j
invariant-loop-j l = Clearing (take l.n l.fn.effective) l.flags l.j l.weight-items

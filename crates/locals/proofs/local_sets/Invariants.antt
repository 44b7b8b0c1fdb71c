use Rattle.locals.specs.Turns.{Placed}
use mathlib.Core.Path.{◌≡◌}
use lib.ListN.{length}
use Rattle.locals.proofs.local_sets.Given as goal

abbrev pub invariant-loop-p : goal.invariant-loop-p
invariant-loop-p l = (length l.united ≡ length l.initial.united) × Placed l.sets l.w l.v l.members l.local l.c l.p l.united

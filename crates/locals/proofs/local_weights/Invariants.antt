use Rattle.locals.specs.Turns.{Weights}
use mathlib.Core.Path.{◌≡◌}
use lib.ListN.{length}
use Rattle.locals.proofs.local_weights.Given as goal

abbrev pub invariant-loop-i : goal.invariant-loop-i
invariant-loop-i l = (length l.out ≡ length l.initial.out) × Weights l.weights l.local l.i l.out

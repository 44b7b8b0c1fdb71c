use Rattle.locals.specs.Unions.{Uniting}
use mathlib.Core.Path.{◌≡◌}
use lib.ListN.{length}
use Rattle.locals.proofs.unite_members.Given as goal

abbrev pub invariant-loop-p : goal.invariant-loop-p
invariant-loop-p l = (length l.words ≡ length l.initial.words) × Uniting l.initial.words l.w l.sets l.members l.p l.words

use Rattle.locals.specs.Unions.{Tested}
use Rattle.slots.specs.Slots.{held}
use mathlib.Core.Path.{◌≡◌}
use lib.ListN.{length, get_or}
use Rattle.locals.proofs.put_local.Given as goal

abbrev pub invariant-loop-i : goal.invariant-loop-i
invariant-loop-i l = (length l.row ≡ length l.initial.row) × Tested l.initial.row 2 0 (λ x. held l.sets l.w l.node (get_or l.local x 0)) l.i l.row

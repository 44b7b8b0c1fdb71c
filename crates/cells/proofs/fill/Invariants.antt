use Rattle.std.proofs.Common.{◌≡◌}
use Rattle.spec.specs.Memory.{filled, over}
use Rattle.cells.proofs.fill.Given as goal

abbrev pub invariant-loop-place : goal.invariant-loop-place
invariant-loop-place g l = l.place-items ≡ over l.fn.list (filled l.place-index l.x)

use Rattle.std.proofs.Common.{take}
use Rattle.std.specs.List.{FoldsTo}
use Rattle.stored.specs.Sums.{AddsAs}
use Rattle.stored.proofs.sums.with_all.Given as goal

abbrev pub invariant-loop-x : goal.invariant-loop-x
invariant-loop-x g l = FoldsTo (AddsAs g.T.Into.converts) l.fn.sum (take l.x-index l.fn.list) l.s

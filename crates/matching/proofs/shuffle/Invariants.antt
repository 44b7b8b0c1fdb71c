use Rattle.spec.specs.Coarsen.{shuffled}
use Rattle.spec.specs.Draws.{drawn}
use Rattle.std.proofs.Common.{◌≡◌, ◌-◌, length}
use Rattle.matching.proofs.shuffle.Given as goal

abbrev pub invariant-loop-i : goal.invariant-loop-i
invariant-loop-i l = (length l.order ≡ length l.initial.order) × (shuffled (length l.initial.order - 1) (drawn l.initial.order l.initial.draws) ≡ shuffled (l.i - 1) (drawn l.order l.draws))

use Rattle.spec.specs.Lists.{range}
use Rattle.std.proofs.Common.{◌≡◌, take, length}
use Rattle.matching.proofs.count_up.Given as goal

abbrev pub invariant-loop-k : goal.invariant-loop-k
invariant-loop-k l = (length l.order ≡ length l.initial.order) × (take l.k l.order ≡ range l.k)

use Rattle.std.proofs.Common.{◌≡◌, ◌≤◌}
use Rattle.live.specs.Holders.{side_by_side}
use Rattle.live.proofs.fronts.put_holders.Given as goal

abbrev pub invariant-loop-k : goal.invariant-loop-k
invariant-loop-k l = (l.k ≤ l.w) × (l.sets ≡ side_by_side l.initial.sets l.w l.live l.m l.k)

use Rattle.bits.specs.Submask.{Part, parts_below}
use Prim.Native.Nat.{◌+◌, ◌≤◌}
use mathlib.Core.Path.{◌≡◌}
use Rattle.bits.proofs.count_parts.Given as goal

abbrev pub invariant-loop-sub : goal.invariant-loop-sub
invariant-loop-sub l = (Part l.sub l.rest) × (l.sub ≤ l.rest) × (l.n + l.sub ≤ l.rest) × (l.n + parts_below l.rest (l.sub + 1) ≡ parts_below l.rest (l.rest + 1))

abbrev pub decreases-loop-sub : goal.decreases-loop-sub
decreases-loop-sub l = l.sub

use Rattle.std.proofs.Common.{◌≡◌, ◌*◌, ◌≤◌}
use Rattle.slots.specs.Writes.{mixed}
use Rattle.slots.specs.Slots.{written}
use Rattle.slots.proofs.mix.combine.Given as goal

abbrev pub invariant-loop-k : goal.invariant-loop-k
invariant-loop-k g l = (l.k ≤ l.w) × (l.words ≡ written l.fn.words (l.c * l.w) (mixed g.O.WordOp.on_members l.fn.words l.w l.a l.b) l.k)

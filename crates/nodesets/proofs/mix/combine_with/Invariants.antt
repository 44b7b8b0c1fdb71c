use Rattle.std.proofs.Common.{◌≡◌, ◌*◌, ◌≤◌, length}
use Rattle.slots.specs.Slots.{written}
use Rattle.nodesets.specs.Mixes.{mixed_with}
use Rattle.nodesets.proofs.mix.combine_with.Given as goal

abbrev pub invariant-loop-k : goal.invariant-loop-k
invariant-loop-k g l = (l.k ≤ l.w) × (length l.words ≡ length l.fn.words) × (l.words ≡ written l.fn.words (l.c * l.w) (mixed_with g.O.WordOp.on_members l.fn.words l.other l.w l.a l.b) l.k)

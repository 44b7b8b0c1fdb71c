use Rattle.nodesets.specs.Mixes.{mixed_with}
use Rattle.slots.specs.Slots.{written}
use Rattle.std.proofs.Common.{◌≡◌, ◌*◌, ◌≤◌}
use Rattle.locals.proofs.mix_slot.Given as goal

abbrev pub invariant-loop-k : goal.invariant-loop-k
invariant-loop-k g l = (l.k ≤ l.w) × (l.words ≡ written l.fn.words (l.c * l.w) (mixed_with g.O.WordOp.on_members l.fn.words l.sets l.w l.c l.s) l.k)

use Rattle.std.proofs.Common.{[], ◌≡◌, ◌*◌, ◌<◌, length, ℕ, take, get_or}
use Rattle.slots.specs.Weigh.{either, weighed}
use Rattle.start.proofs.weigh_all.Given as goal

abbrev pub invariant-loop-i : goal.invariant-loop-i
invariant-loop-i l = (length l.size-items ≡ length (take l.most l.fn.sizes))
    × ((k : ℕ) → k < l.i → get_or l.size-items k 0 ≡ weighed l.scoring.weights.now [] (either l.sets l.scoring.width k k) (l.scoring.width * 64))

use Rattle.std.proofs.Common.{◌≡◌, ◌<◌, length, ℕ, take, get_or}
use Rattle.start.proofs.count_up.Given as goal

abbrev pub invariant-loop-i : goal.invariant-loop-i
invariant-loop-i l = (length l.place-items ≡ length (take l.most l.fn.list)) × ((k : ℕ) → k < l.i → get_or l.place-items k 0 ≡ k)

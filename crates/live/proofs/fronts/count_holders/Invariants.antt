use Rattle.std.proofs.Common.{◌≡◌, ◌≤◌}
use Rattle.live.specs.Holders.{count_word}
use Rattle.live.proofs.fronts.count_holders.Given as goal

abbrev pub invariant-loop-i : goal.invariant-loop-i
invariant-loop-i l =
    (l.i ≤ l.m)
    × (l.one ≡ count_word l.sets l.w l.live l.k 1 l.i) × (l.two ≡ count_word l.sets l.w l.live l.k 2 l.i) × (l.three ≡ count_word l.sets l.w l.live l.k 3 l.i)

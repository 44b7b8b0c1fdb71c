use Rattle.live.specs.Holders.{count_word}
use mathlib.Core.Path.{◌≡◌}
use Rattle.live.proofs.count_holders.Given as goal

abbrev pub invariant-loop-slot : goal.invariant-loop-slot
invariant-loop-slot l =
    (l.one ≡ count_word l.sets l.w l.live l.k 1 l.slot-index) × (l.two ≡ count_word l.sets l.w l.live l.k 2 l.slot-index) × (l.three ≡ count_word l.sets l.w l.live l.k 3 l.slot-index)

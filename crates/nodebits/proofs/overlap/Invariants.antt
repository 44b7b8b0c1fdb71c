use Rattle.slots.specs.Weigh.{weighed, either}
use Rattle.slots.specs.Slots.{held}
use mathlib.Core.Bool.{not, ◌&&◌}
use mathlib.Core.List.{[]}
use Prim.Native.Nat.{◌*◌, ◌≤◌}
use mathlib.Core.Path.{◌≡◌}
use Rattle.nodebits.proofs.overlap.Given as goal

abbrev pub invariant-loop-k : goal.invariant-loop-k
invariant-loop-k l = (l.k ≤ l.w) × (l.shared ≡ weighed l.effective [] (λ j. held l.sets l.w l.l j && held l.sets l.w l.r j) (l.k * 64)) × (l.dropped ≡ weighed l.effective [] (λ j. either l.sets l.w l.l l.r j && not (held l.sets l.w l.v j)) (l.k * 64)) × (l.shared ≤ l.k * 512) × (l.dropped ≤ l.k * 512)

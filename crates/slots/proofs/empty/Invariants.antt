use Rattle.slots.specs.Slots.{written}
use mathlib.Core.Bool.{false}
use Prim.Native.Nat.{◌*◌, ◌≤◌}
use mathlib.Core.Path.{◌≡◌}
use Rattle.slots.proofs.empty.Given as goal

abbrev pub invariant-loop-k : goal.invariant-loop-k
invariant-loop-k l = (l.k ≤ l.w) × (l.words ≡ written l.initial.words (l.s * l.w) (λ j. false) l.k)

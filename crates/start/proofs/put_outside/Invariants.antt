use Rattle.start.specs.Leaves.{outside_to}
use mathlib.Core.List.{List}
use Prim.Native.Nat.{ℕ, ◌≤◌}
use mathlib.Core.Path.{◌≡◌}
use Rattle.start.proofs.put_outside.Given as goal

abbrev pub invariant-loop-l : goal.invariant-loop-l
invariant-loop-l l = (l.l ≤ l.n)
    × ((base : List ℕ) → l.initial.sets ≡ outside_to l.w l.counts l.legs base l.outputs 0 → l.sets ≡ outside_to l.w l.counts l.legs base l.outputs l.l)

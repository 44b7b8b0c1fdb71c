use Rattle.slicing.specs.Turns.{Slicing}
use Rattle.network.specs.Views.{net_in}
use Prim.Native.Nat.{◌-◌}
use mathlib.Core.Path.{◌≡◌}
use lib.ListN.{length}
use Rattle.slicing.proofs.slice.Given as goal

abbrev pub invariant-loop : goal.invariant-loop
invariant-loop l = (length l.outside ≡ length l.initial.outside)
    × Slicing (net_in l.network) l.target l.tree.kids.now l.initial.flags (length l.network.weights.now) (length l.network.weights.now - l.counter) l.flags

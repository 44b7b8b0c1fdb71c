use Rattle.walk.specs.Check.{Going}
use Prim.Native.Nat.{◌+◌, ◌-◌, ◌*◌, ◌≤◌}
use mathlib.Core.Path.{◌≡◌}
use lib.ListN.{length}
use Rattle.walk.proofs.meets_all.Given as goal

abbrev pub invariant-loop-p : goal.invariant-loop-p
invariant-loop-p l = Going l.kids l.n l.ws l.v l.p l.met × (l.p ≤ l.n * 2 - 1) × (l.met ≤ l.n * 2 - 1) × (2048 ≤ length l.ws) × (length l.ws ≡ length l.initial.ws)

abbrev pub decreases-loop-p : goal.decreases-loop-p
decreases-loop-p l = l.root + 1 - l.met

use Rattle.coarsen.specs.Joined.{joined_of, joined}
use Prim.Native.Nat.{◌≤◌}
use mathlib.Core.Path.{◌≡◌}
use lib.ListN.{length}
use Rattle.coarsen.proofs.join_all.Given as goal

abbrev pub invariant-loop-v : goal.invariant-loop-v
invariant-loop-v l = (l.v ≤ length l.vw) × (joined_of l.places l.coarse l.c ≡ joined l.vw l.mates (joined_of l.initial.places l.initial.coarse 0) l.v) × (l.c ≤ l.v)

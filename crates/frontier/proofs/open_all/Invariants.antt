use Rattle.frontier.specs.Opens.{state, openings}
use Prim.Native.Nat.{◌+◌, ◌≤◌}
use mathlib.Core.Path.{◌≡◌}
use lib.ListN.{length}
use Rattle.frontier.proofs.open_all.Given as goal

abbrev pub invariant-loop-i : goal.invariant-loop-i
invariant-loop-i l = (l.i ≤ l.i-end) × (l.m ≤ l.i + 1) × (1 ≤ l.m) × (length l.members ≡ length l.initial.members) × (length l.opened ≡ length l.initial.opened) × (state l.members l.opened l.m ≡ openings l.kids l.works l.n l.i (state l.initial.members l.initial.opened 1))

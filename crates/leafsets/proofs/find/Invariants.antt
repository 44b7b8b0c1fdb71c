use Rattle.leafsets.specs.Search.{same_words, first_from}
use Prim.Native.Nat.{◌-◌, ◌≤◌}
use mathlib.Core.Path.{◌≡◌}
use Rattle.leafsets.proofs.find.Given as goal

abbrev pub invariant-loop-u : goal.invariant-loop-u
invariant-loop-u l = (l.lo ≤ l.u) × (l.u ≤ l.hi) × (first_from (same_words l.w l.ws l.s) l.lo (l.hi - l.lo) ≡ first_from (same_words l.w l.ws l.s) l.u (l.hi - l.u))

use Prim.Native.Nat.{ℕ, ◌<◌}
use mathlib.Core.Path.{◌≡◌}
use lib.ListN.{length, get_or}
use Rattle.levels.proofs.project.Given as goal

abbrev pub invariant-loop-v : goal.invariant-loop-v
invariant-loop-v l = (length l.part ≡ length l.initial.part) × ((u : ℕ) → u < l.v → get_or l.part u 0 ≡ get_or l.coarse (get_or l.places u 0) 0)

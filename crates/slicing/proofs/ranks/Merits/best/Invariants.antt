use Rattle.slicing.specs.Best.{best_of, candidate_in, rank_in}
use Prim.Native.Nat.{◌≤◌}
use mathlib.Core.Path.{◌≡◌}
use Rattle.slicing.proofs.ranks.Merits.best.Given as goal

abbrev pub invariant-loop-j : goal.invariant-loop-j
invariant-loop-j l = (l.j ≤ l.m) × (l.best ≡ best_of (candidate_in l.self.sliceable.now l.self.sizes.now) (rank_in l.self.total l.self.sliceable.now l.self.touching.now l.self.sizes.now) l.j)

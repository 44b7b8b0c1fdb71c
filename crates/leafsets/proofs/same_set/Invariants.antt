use Rattle.leafsets.specs.Search.{same_words}
use lib.Dec.{eqb}
use Rattle.spec.specs.Lists.{allb, from}
use Prim.Native.Nat.{◌+◌, ◌-◌, ◌*◌, ◌≤◌}
use mathlib.Core.Path.{◌≡◌}
use lib.ListN.{get_or}
use Rattle.leafsets.proofs.same_set.Given as goal

abbrev pub invariant-loop-k : goal.invariant-loop-k
invariant-loop-k l = (l.k ≤ l.w) × (same_words l.w l.ws l.s l.u ≡ allb (λ i. eqb (get_or l.ws (l.s * l.w + i) 0) (get_or l.ws (l.u * l.w + i) 0)) (from l.k (l.w - l.k)))

use Rattle.leafsets.specs.Search.{all_found, rest_found}
use Prim.Native.Nat.{◌+◌, ◌≤◌}
use mathlib.Core.Path.{◌≡◌}
use Rattle.leafsets.proofs.all_found.Given as goal

abbrev pub invariant-loop-k : goal.invariant-loop-k
invariant-loop-k l = (l.k ≤ l.count) × (l.end ≡ l.t + l.count) × (l.t ≤ l.hint) × (l.hint ≤ l.end) × (all_found l.w l.ws l.s l.t l.count ≡ rest_found l.w l.ws l.s l.t l.count l.k)

use Rattle.spec.specs.Memory.{copied}
use mathlib.Core.Path.{◌≡◌}
use lib.ListN.{length}
use Rattle.putfields.proofs.narrow.Given as goal

abbrev pub invariant-loop-k : goal.invariant-loop-k
invariant-loop-k l = (length l.to ≡ length l.initial.to) × (l.to ≡ copied l.initial.to l.list l.k)

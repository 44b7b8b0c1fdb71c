use mathlib.Core.Path.{◌≡◌}
use lib.ListN.{take}
use Rattle.spec.specs.Memory.{placed}
use Rattle.spec.specs.Host.{two_each}
use Rattle.listing.proofs.bytes.put_each.Given as goal

abbrev pub invariant-loop-k : goal.invariant-loop-k
invariant-loop-k l = l.out ≡ placed l.initial.out l.at (two_each (take l.k l.list))

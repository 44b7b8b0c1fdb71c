use Rattle.payloads.specs.Payload.{before, Clean}
use Rattle.spec.specs.Lists.{memb}
use Rattle.std.proofs.Common.{Ok}
use mathlib.Core.Bool.{false}
use mathlib.Core.Path.{◌≡◌}
use lib.ListN.{get_or}
use Rattle.payloads.proofs.check_indices.Given as goal

abbrev pub invariant-loop-other : goal.invariant-loop-other
invariant-loop-other l = (l.found ≡ Ok tt) × (memb (get_or l.bytes l.k 0) (before l.other-index l.bytes) ≡ false)

abbrev pub invariant-bytes : goal.invariant-bytes
invariant-bytes l = (l.found ≡ Ok tt) × Clean l.m l.bytes l.k

use Rattle.spec.specs.Memory.{copied}
use Prim.Native.Nat.{◌≤◌, min}
use mathlib.Core.Path.{◌≡◌}
use lib.ListN.{length}
use Rattle.payloads.proofs.put_bytes.Given as goal

abbrev pub invariant-loop-k : goal.invariant-loop-k
invariant-loop-k l = (l.k ≤ l.k-end) × (l.k-end ≡ min (length l.initial.to) (length l.bytes)) × (length l.to ≡ length l.initial.to) × (l.to ≡ copied l.initial.to l.bytes l.k)

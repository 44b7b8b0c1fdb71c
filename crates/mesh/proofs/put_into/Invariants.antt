use Rattle.std.proofs.Common.{◌≡◌, ◌≤◌}
use Rattle.mesh.specs.Entries.{entered}
use Rattle.mesh.proofs.put_into.Given as goal

abbrev pub invariant-loop-k : goal.invariant-loop-k
invariant-loop-k l = (l.k ≤ l.n) × (l.words ≡ entered l.w l.base l.list l.at l.x l.initial.words l.k)

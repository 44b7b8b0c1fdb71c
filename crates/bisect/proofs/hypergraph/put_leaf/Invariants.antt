use Rattle.mesh.specs.Entries.{entered}
use Rattle.std.proofs.Common.{◌≡◌, ◌*◌}
use Rattle.bisect.proofs.hypergraph.put_leaf.Given as goal

abbrev pub invariant-loop-k : goal.invariant-loop-k
invariant-loop-k l = l.words ≡ entered 2 l.nets l.legs (l.l * 32) l.v l.initial.words l.k

use Rattle.bisect.specs.Raw.{leaf_put_at}
use Rattle.cells.specs.Loop.{turns}
use Rattle.std.proofs.Common.{◌≡◌}
use Rattle.bisect.proofs.hypergraph.put_leaves.Given as goal

abbrev pub invariant-loop-v : goal.invariant-loop-v
invariant-loop-v l = l.words ≡ turns (leaf_put_at l.nets l.leg_counts l.legs l.leaves) l.initial.words l.v

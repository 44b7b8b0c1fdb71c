use Rattle.tables.specs.Lists.{coded}
use Rattle.rows.specs.Rows.{renewed_all}
use Prim.Native.Nat.{◌≤◌}
use mathlib.Core.Path.{◌≡◌}
use lib.ListN.{length}
use Rattle.rows.proofs.renew_all.Given as goal

abbrev pub invariant-loop-k : goal.invariant-loop-k
invariant-loop-k l = (l.k ≤ length l.live)
    × (coded l.rows ≡ renewed_all l.sets l.scoring.width l.scoring.weights.now l.sizes l.scoring.start l.live (coded l.initial.rows) l.k)

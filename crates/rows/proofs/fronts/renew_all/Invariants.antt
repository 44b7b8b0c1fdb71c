use Rattle.std.proofs.Common.{◌≡◌, ◌≤◌}
use Rattle.tables.specs.Lists.{coded}
use Rattle.rows.specs.Rows.{renewed_all}
use Rattle.rows.proofs.fronts.renew_all.Given as goal

abbrev pub invariant-loop-k : goal.invariant-loop-k
invariant-loop-k l = (l.k ≤ l.m)
    × (coded l.rows ≡ renewed_all l.sets l.scoring.width l.scoring.weights.now l.sizes l.scoring.start l.live (coded l.initial.rows) l.k)

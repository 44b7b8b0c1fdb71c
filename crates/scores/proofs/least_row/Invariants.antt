use Rattle.tables.specs.Lists.{code}
use Rattle.scores.specs.Scores.{row_of}
use Prim.Native.Nat.{◌≤◌}
use mathlib.Core.Path.{◌≡◌}
use Rattle.scores.proofs.least_row.Given as goal

abbrev pub invariant-loop-i : goal.invariant-loop-i
invariant-loop-i l =
    (l.i ≤ l.k) × (code l.best ≡ row_of l.sets l.scoring.width l.scoring.weights.now l.sizes l.scoring.start l.live l.i l.y)

use Rattle.tables.specs.Lists.{lists_in}
use Rattle.merging.specs.Holds.{Given, Ghost}
use Rattle.merging.specs.Connect.{Start, Reached}
use Rattle.merging.specs.Scans.{kids_behind}
use Prim.Native.Nat.{◌+◌, ◌≤◌}
use lib.ListN.{length}
use Rattle.merging.proofs.connect.Given as goal

abbrev pub invariant-loop-t : goal.invariant-loop-t
invariant-loop-t l = (l.t ≤ l.scoring.start)
    × (length l.tables.live.items ≤ 128 + l.t)
    × ((G : Given) (S : Ghost) → Start G S (lists_in l.fn.sets l.fn.tables) l.scoring.width l.n l.scoring.start l.count l.scoring.weights.now (kids_behind S l.fn.kids)
    → Reached G S (kids_behind S l.fn.kids) l.t (lists_in l.sets l.tables) (kids_behind S l.kids))

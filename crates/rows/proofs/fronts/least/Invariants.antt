use Rattle.std.proofs.Common.{◌≡◌, ◌≤◌}
use Rattle.tables.specs.Lists.{coded, choice_code}
use Rattle.rows.specs.Rows.{least_of}
use Rattle.rows.proofs.fronts.least.Given as goal

abbrev pub invariant-loop-k : goal.invariant-loop-k
invariant-loop-k l = (l.k ≤ l.m) × (choice_code l.best ≡ least_of l.pairs.sizes.now l.pairs.start (coded l.pairs.rows.now) l.live l.k)

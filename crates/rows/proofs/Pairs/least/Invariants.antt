use Rattle.tables.specs.Lists.{coded, choice_code}
use Rattle.rows.specs.Rows.{least_of}
use mathlib.Core.Path.{◌≡◌}
use Rattle.rows.proofs.Pairs.least.Given as goal

abbrev pub invariant-loop-table : goal.invariant-loop-table
invariant-loop-table l = choice_code l.best ≡ least_of l.self.sizes.now l.self.start (coded l.self.rows.now) l.live l.table-index

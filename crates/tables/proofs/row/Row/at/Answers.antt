use Rattle.tables.specs.Lists.{code, coded_at}
use mathlib.Core.Path.{refl, ap, ◌∙◌}
use Rattle.tables.proofs.row.Row.at.Goals as goal

pub returns : goal.returns
returns c = ap code c.get_or.ensures ∙ coded_at c.args.rows.now c.args.slot (record { number = 0 }) refl

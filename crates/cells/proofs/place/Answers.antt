use mathlib.Core.Path.{sym, ◌∙◌}
use Rattle.cells.specs.Cells.{placed_back, placed_out, copied_all}
use Rattle.cells.proofs.place.Goals as goal

pub returns-then-at-out : goal.returns-then-at-out
returns-then-at-out g c = placed_back _ _ _ _ (c.copy.ensures ∙ copied_all _ _)

pub returns-else-at-out : goal.returns-else-at-out
returns-else-at-out g c = sym (placed_out c.args.out.now _ _ c.if-at-out.false)

use Rattle.cells.specs.Cells.{placed_back, placed_out}
use mathlib.Core.Path.{sym}
use Rattle.payloads.proofs.place.Goals as goal

pub returns-then-at-list : goal.returns-then-at-list
returns-then-at-list c = placed_back _ _ _ _ c.copy_bytes.ensures

pub returns-else-at-list : goal.returns-else-at-list
returns-else-at-list c = sym (placed_out c.args.list.now _ _ c.if-at-list.false)

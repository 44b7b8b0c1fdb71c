use Rattle.cells.specs.Cells.{filled_none, filled_next, filled_end}
use Rattle.std.proofs.Common.{◌∙◌}
use Rattle.cells.proofs.fill.Goals as goal

pub loop-place-init : goal.loop-place-init
loop-place-init g c = filled_none _ _

pub loop-place-preserved : goal.loop-place-preserved
loop-place-preserved g c = filled_next _ _ _ c.loop-place.invariant

pub returns : goal.returns
returns g c = c.loop-place.invariant ∙ filled_end _ _ _ c.loop-place-test.false

use Rattle.locals.specs.Turns.{weights_none}
use mathlib.Core.Path.{refl}
use Rattle.locals.proofs.local_weights.Goals as goal

pub loop-i-init : goal.loop-i-init
loop-i-init c = let a = c.args in (refl, weights_none a.weights.now a.local.now c.fill.new.list _ c.fill.ensures)

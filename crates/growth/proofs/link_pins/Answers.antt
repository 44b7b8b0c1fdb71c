use Rattle.growth.specs.Links.{linked_pin}
use Rattle.partition.specs.Folds.{fold_next}
use Rattle.spec.specs.Floats.{whole_float}
use Rattle.std.proofs.Common.{◌∙◌, ℕ}
use Rattle.std.proofs.Math.Path.{ap₂}
use Rattle.std.specs.Prelude.{Float}
use Rattle.growth.proofs.link_pins.Goals as goal

pub loop-u-preserved : goal.loop-u-preserved
loop-u-preserved c = let a = c.args in let l = c.loop-u in fold_next (linked_pin (whole_float a.w)) a.pins.now a.links.now l.links _ l.u-index c.loop-u-test.true l.invariant (c.link.ensures ∙ ap₂ (λ (x : Float) (u : ℕ). linked_pin x u l.links) c.from-x.ensures c.from.ensures)

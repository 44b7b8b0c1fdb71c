use Rattle.coarsen.specs.Mapped.{images, image_there}
use Rattle.slots.specs.Writes.{all_none, all_next}
use Rattle.std.specs.Prelude.{get_or}
use Rattle.std.proofs.Common.{ℕ, sym, ap, ◌∙◌}
use Rattle.coarsen.proofs.put_coarse.Goals as goal

pub loop-v-init : goal.loop-v-init
loop-v-init c = let a = c.args in all_none a.graph.now 2 a.s (images a.places.now a.pins.now) 0 (λ j. (c.type_inv.graph j).fits)

pub loop-v-preserved : goal.loop-v-preserved
loop-v-preserved c = let a = c.args in let l = c.loop-v in all_next a.graph.now 2 a.s (images a.places.now a.pins.now) 0 l.v-index c.from-in-loop-v.result _ _ l.invariant (c.from-in-loop-v.ensures ∙ c.get_or.ensures ∙ ap (λ (u : ℕ). get_or a.places.now u 0) c.from.ensures ∙ sym (image_there a.places.now a.pins.now l.v-index c.loop-v-test.true)) c.insert.ensures

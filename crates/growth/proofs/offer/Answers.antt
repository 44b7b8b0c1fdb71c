use Rattle.growth.specs.Links.{offered_better, offered_weak}
use lib.Ieee.{of_bits, round}
use Rattle.std.proofs.Common.{refl, sym, ◌∙◌}
use Rattle.growth.proofs.offer.Goals as goal

pub returns-then-best-x-clause-offered : goal.returns-then-best-x-clause-offered
unfolding of_bits round
returns-then-best-x-clause-offered c = let a = c.args in offered_better a.part.now a.links.now a.draws.now _ a.u c.unit-noise.result c.get_or-2.result a.best.link a.best.vertex c.unit-noise.ensures.value c.unit-noise.ensures.words c.get_or-2.ensures _ refl c.if-best-x.true (sym c.get_or.ensures ∙ c.if-get_or-ne0.false)

pub returns-clause-offered : goal.returns-clause-offered
unfolding of_bits round
returns-clause-offered c = let a = c.args in offered_weak a.part.now a.links.now a.draws.now _ a.u c.unit-noise.result c.get_or-2.result a.best.link a.best.vertex c.unit-noise.ensures.value c.unit-noise.ensures.words c.get_or-2.ensures _ refl c.if-best-x.false (sym c.get_or.ensures ∙ c.if-get_or-ne0.false)

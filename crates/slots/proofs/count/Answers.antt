use Rattle.std.proofs.Common.{rules, arith, ◌∙◌}
use Rattle.std.proofs.lemmas.Iterator.{YieldsList-from_map, YieldsList-from_range}
use Rattle.std.proofs.lemmas.Iterator.Consumers.{sum_from_yields_List, fits_from_yields_list}
use Rattle.slots.specs.Rising.{ones_at, count_all, count_fits}
use Rattle.slots.proofs.count.Goals as goal

pub sum-requires-clause-fits : goal.sum-requires-clause-fits
sum-requires-clause-fits c =
    let d = c.args in
    fits_from_yields_list c.map.result _
    (YieldsList-from_map _ (ones_at d.words.now d.w d.s) (YieldsList-from_range 0 d.w d.w c.map.ensures.source (omega arith)) c.map.ensures.closure (λ x r q k. search rules))
    (count_fits d.words.now d.w d.s (λ i. omega (arith, c.type_inv.words i)) c.requires.0)

pub returns : goal.returns
returns c =
    let d = c.args in
    sum_from_yields_List c.map.result c.sum.result c.sum.ensures.ran
    (YieldsList-from_map _ (ones_at d.words.now d.w d.s) (YieldsList-from_range 0 d.w d.w c.map.ensures.source (omega arith)) c.map.ensures.closure (λ x r q k. search rules))
    ∙ count_all d.words.now d.w d.s (λ i. omega (arith, c.type_inv.words i))

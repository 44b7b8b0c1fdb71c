use Rattle.std.proofs.Common.{rules, arith, ◌∙◌, ◌*◌}
use Rattle.std.proofs.lemmas.Iterator.{YieldsList-from_map, YieldsList-from_range}
use Rattle.std.proofs.lemmas.Iterator.Consumers.{sum_from_yields_List, fits_from_yields_list}
use Rattle.slots.specs.Weigh.{either, either_weight, weigh_all, weighed_most}
use Rattle.slots.proofs.weigh.Goals as goal

pub sum-requires-clause-fits : goal.sum-requires-clause-fits
sum-requires-clause-fits c =
    let d = c.args in
    fits_from_yields_list c.map.result _
    (YieldsList-from_map _ (either_weight d.words.now d.w d.a d.b d.weights.now d.flags.now) (YieldsList-from_range 0 d.w d.w c.map.ensures.source (omega arith)) c.map.ensures.closure (λ x r q k. search rules))
    (omega (arith, weigh_all d.words.now d.w d.a d.b d.weights.now d.flags.now d.w, weighed_most d.weights.now d.flags.now (either d.words.now d.w d.a d.b) (d.w * 64) c.requires.3))

pub returns : goal.returns
returns c =
    let d = c.args in
    let e = sum_from_yields_List c.map.result c.sum.result c.sum.ensures.ran
    (YieldsList-from_map _ (either_weight d.words.now d.w d.a d.b d.weights.now d.flags.now) (YieldsList-from_range 0 d.w d.w c.map.ensures.source (omega arith)) c.map.ensures.closure (λ x r q k. search rules))
    ∙ weigh_all d.words.now d.w d.a d.b d.weights.now d.flags.now d.w in
    (e, omega (arith, e, weighed_most d.weights.now d.flags.now (either d.words.now d.w d.a d.b) (d.w * 64) c.requires.3))

use Rattle.std.proofs.Common.{rules, arith, ◌∙◌}
use Rattle.std.proofs.lemmas.Iterator.{YieldsList-from_map, YieldsList-from_range}
use Rattle.std.proofs.lemmas.Iterator.Consumers.{sum_from_yields_List, fits_from_yields_list}
use Rattle.live.specs.Merged.{weight_at, size_all, size_fits}
use Rattle.live.proofs.merged_size.Goals as goal

pub sum-requires-clause-fits : goal.sum-requires-clause-fits
sum-requires-clause-fits c =
    let d = c.args in
    fits_from_yields_list c.map.result _
    (YieldsList-from_map _ (weight_at d.sets.now d.w d.x d.y d.weights.now) (YieldsList-from_range 0 d.w d.w c.map.ensures.source (omega arith)) c.map.ensures.closure (λ x r q k. search rules))
    (size_fits d.sets.now d.w d.x d.y d.weights.now c.requires.0 c.requires.3)

pub returns : goal.returns
returns c =
    let d = c.args in
    sum_from_yields_List c.map.result c.sum.result c.sum.ensures.ran
    (YieldsList-from_map _ (weight_at d.sets.now d.w d.x d.y d.weights.now) (YieldsList-from_range 0 d.w d.w c.map.ensures.source (omega arith)) c.map.ensures.closure (λ x r q k. search rules))
    ∙ size_all d.sets.now d.w d.x d.y d.weights.now

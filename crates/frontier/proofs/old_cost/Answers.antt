use Rattle.std.proofs.Common.{rules, arith, ◌∙◌, ap, ℕ}
use Rattle.std.specs.declared.ops.Range.{Range}
use Rattle.std.proofs.lemmas.Iterator.{YieldsList-from_map, YieldsList-from_range, serves_from_Range}
use Rattle.std.proofs.lemmas.Iterator.Consumers.{sum_from_yields_List, fits_from_yields_list}
use Rattle.frontier.specs.Costs.{node_cost, small_work, costs_all, costs_fit}
use Rattle.frontier.proofs.old_cost.Goals as goal

pub sum-requires-clause-can : goal.sum-requires-clause-can
sum-requires-clause-can c =
    let d = c.args in
    (tt, serves_from_Range (λ x q k. search rules) (λ x a b. let e = small_work d.works.now d.opened.now d.c c.requires x (omega (arith, b, ap (λ (r : Range ℕ). r.end) c.map.ensures.source)) in search rules))

pub sum-requires-clause-fits : goal.sum-requires-clause-fits
sum-requires-clause-fits c =
    let d = c.args in
    fits_from_yields_list c.map.result _
    (YieldsList-from_map _ (node_cost d.works.now d.opened.now) (YieldsList-from_range 0 d.c d.c c.map.ensures.source (omega arith)) c.map.ensures.closure (λ x r q k. search rules))
    (costs_fit d.works.now d.opened.now d.c c.requires)

pub returns : goal.returns
returns c =
    let d = c.args in
    sum_from_yields_List c.map.result c.sum.result c.sum.ensures.ran
    (YieldsList-from_map _ (node_cost d.works.now d.opened.now) (YieldsList-from_range 0 d.c d.c c.map.ensures.source (omega arith)) c.map.ensures.closure (λ x r q k. search rules))
    ∙ costs_all d.works.now d.opened.now d.c c.requires

use Rattle.partition.specs.Gains.{gain-one, gain_zero}
use mathlib.Core.Path.{sym, ◌∙◌}
use Rattle.partition.proofs.graph.Hypergraph.gain.Goals as goal

pub returns-then-has : goal.returns-then-has
returns-then-has c vw =
    let a = c.args in
    c.gain_sum.ensures
    ∙ sym (gain-one a.self.now.words.now a.self.now.place.nets a.self.now.place.vertices a.self.now.place.sides a.self.now.place.net_count a.self.now.place.vertex_count a.self.now.weights.now a.self.now.placed.laid a.v vw c.requires
    (sym c.has.ensures ∙ c.if-has.true))

pub returns : goal.returns
returns c vw =
    let a = c.args in
    c.gain_sum-2.ensures
    ∙ sym (gain_zero a.self.now.words.now a.self.now.place.nets a.self.now.place.vertices a.self.now.place.sides a.self.now.place.net_count a.self.now.place.vertex_count a.self.now.weights.now a.self.now.placed.laid a.v vw c.requires
    (sym c.has.ensures ∙ c.if-has.false))

use Rattle.ratings.specs.Lists.{ratings_of}
use Rattle.ratings.specs.Rated.{rated_nets}
use Rattle.slots.specs.Rising.{listed_fits, listed_all}
use native.Mathlib.Omega.{arith}
use Prim.Native.Nat.{◌+◌}
use mathlib.Core.Path.{sym, ap, ◌∙◌}
use lib.ListN.{length}
use Rattle.std.proofs.Common.{length-take-le}
use Rattle.matching.proofs.rate.Goals as goal

pub returns-clause-rated : goal.returns-clause-rated
returns-clause-rated c =
    let a = c.args in let g = a.graph.now in let m = c.members-len in
    c.rate_nets.ensures.rated
    ∙ ap (λ l. rated_nets g.words.now g.layout.nets g.layout.net_weights.now a.mates.now (length g.layout.vertex_weights.now) a.v l (ratings_of a.ratings.now))
    (listed_all g.words.now _ _ 4 (g.layout.vertices + a.v) m.result m.ensures.0 m.ensures.1 (omega arith))

pub slice_bounds-list-end : goal.slice_bounds-list-end
slice_bounds-list-end c = let a = c.args in let m = c.members-len in listed_fits a.graph.now.words.now _ _ 4 (a.graph.now.layout.vertices + a.v) m.result m.ensures.0 m.ensures.1 (omega arith)

pub slice_bounds-rate_nets-end : goal.slice_bounds-rate_nets-end
slice_bounds-rate_nets-end c = let a = c.args in let m = c.members-len in sym (length-take-le m.result m.new.out (listed_fits a.graph.now.words.now _ _ 4 (a.graph.now.layout.vertices + a.v) m.result m.ensures.0 m.ensures.1 (omega arith)))

pub returns-clause-few : goal.returns-clause-few
returns-clause-few c =
    let a = c.args in let m = c.members-len in
    let fit = listed_fits a.graph.now.words.now _ _ 4 (a.graph.now.layout.vertices + a.v) m.result m.ensures.0 m.ensures.1 (omega arith) in
    omega (arith, c.rate_nets.ensures.few, length-take-le m.result m.new.out fit, fit, m.auto.out)

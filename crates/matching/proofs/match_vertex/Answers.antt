use Rattle.cells.specs.Cells.{front_filled}
use Rattle.matching.specs.Meshed.{matched_laid, matched_already}
use Rattle.ratings.specs.Rated.{ratings_in, rated_nets}
use Rattle.spec.specs.Floats.{zero_float}
use Rattle.slots.specs.Rising.{rising_of}
use Rattle.std.proofs.Math.Seq.{take-length}
use lib.Ieee.{of_bits}
use native.Mathlib.Omega.{arith}
use Prim.Native.Nat.{◌+◌}
use mathlib.Core.Path.{refl, sym, ap, ◌∙◌}
use lib.ListN.{length, take, replicate}
use Rattle.matching.proofs.match_vertex.Goals as goal

pub returns-then-from-n : goal.returns-then-from-n
unfolding of_bits
returns-then-from-n c =
    let a = c.args in let g = a.graph.now in let o = c.rate in let k = c.choose-best in
    let r = rising_of g.words.now 4 (g.layout.vertices + a.v) in
    matched_laid g.words.now g.layout.nets g.layout.vertices g.layout.net_count (length g.layout.vertex_weights.now) g.layout.net_weights.now g.layout.vertex_weights.now a.limit g.meshed a.v a.draws.now _ a.mates.now _ r a.touched.now _ _ _ (length r) o.new.ratings.count k.result.mate k.result.rating c.requires.0 refl (sym (c.from.ensures ∙ c.get_or.ensures) ∙ c.if-from-n.true) (take-length r) (front_filled (length g.layout.vertex_weights.now) 128 zero_float (omega (arith, g.meshed.few.1)))
    (o.ensures.rated ∙ ap (λ l. rated_nets g.words.now g.layout.nets g.layout.net_weights.now a.mates.now (length g.layout.vertex_weights.now) a.v l (ratings_in (take (length g.layout.vertex_weights.now) (replicate 128 zero_float)) a.touched.now 0)) (sym (take-length r)))
    _ k.ensures c.pair.ensures

pub returns-else-from-n : goal.returns-else-from-n
returns-else-from-n c = let a = c.args in let g = a.graph.now in matched_already g.words.now g.layout.nets g.layout.vertices g.layout.net_count (length g.layout.vertex_weights.now) g.layout.net_weights.now g.layout.vertex_weights.now a.limit g.meshed a.v a.draws.now a.mates.now refl (λ e. c.if-from-n.false (c.from.ensures ∙ c.get_or.ensures ∙ e))

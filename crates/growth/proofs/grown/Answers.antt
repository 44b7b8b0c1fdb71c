use Rattle.cells.specs.Cells.{front_filled}
use Rattle.growth.specs.Grown.{grown_is}
use Rattle.spec.specs.Floats.{zero_float}
use lib.Ieee.{of_bits}
use native.Mathlib.Omega.{arith}
use lib.ListN.{length}
use Rattle.growth.proofs.grown.Goals as goal

pub returns : goal.returns
unfolding of_bits
returns c =
    let p = c.requires in let a = c.args in let g = a.graph.now in
    grown_is g.words.now g.layout.nets g.layout.net_count g.layout.net_weights.now g.layout.vertex_weights.now a.draws.now c.index.new.self _ a.part.now _ _ _ _ c.index.result c.grow_turns.result.weight c.grow_turns.result.next p.1 c.fill.ensures (front_filled (length g.layout.vertex_weights.now) 128 zero_float (omega (arith, g.meshed.few.1))) c.index.ensures.value c.index.ensures.words c.grow_turns.ensures

use native.Mathlib.Omega.{arith}
use Rattle.spec.specs.Floats.{zero_float}
use Rattle.partition.specs.Folds.{range_next}
use Rattle.partition.specs.Cuts.{cut_step, cut_done}
use Rattle.partition.proofs.place.Place.cut.Goals as goal

pub loop-e-preserved : goal.loop-e-preserved
loop-e-preserved c =
    let a = c.args in
    let l = c.loop-e in
    (omega arith, range_next (cut_step a.words.now a.self.now.nets a.self.now.sides a.weights.now) zero_float l.c c.cut_step-c.result l.e l.invariant.1 c.cut_step-c.ensures)

pub returns : goal.returns
returns c =
    let a = c.args in
    let l = c.loop-e in
    cut_done a.words.now a.self.now.nets a.self.now.sides a.weights.now a.self.now.vertices a.self.now.net_count a.self.now.vertex_count l.e l.c c.requires.2 (omega arith) l.invariant.1

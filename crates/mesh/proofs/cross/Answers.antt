use Rattle.std.proofs.Common.{arith, sym, ap, ◌∙◌}
use Rattle.cells.specs.Loop.{turns, turns_none, turns_next, turns_end}
use Rattle.mesh.specs.Crossed.{crossed_net, crossed}
use Rattle.mesh.specs.Entries.{emptied}
use Rattle.mesh.proofs.cross.Goals as goal

pub loop-e-init : goal.loop-e-init
loop-e-init c = (omega arith, sym (turns_none _ _))

pub loop-e-preserved : goal.loop-e-preserved
loop-e-preserved c =
    let o = c.args.place.now in
    let l = c.loop-e in
    (omega arith, turns_next (crossed_net o.nets o.vertices) _ l.e l.invariant.1 c.cross_net.ensures)

pub returns : goal.returns
unfolding crossed
returns c =
    let a = c.args in
    let o = a.place.now in
    let l = c.loop-e in
    turns_end (crossed_net o.nets o.vertices) (emptied 4 o.vertices a.words.now o.vertex_count) (omega (arith, l.invariant.0))
    (l.invariant.1 ∙ ap (λ g. turns (crossed_net o.nets o.vertices) g l.e) c.empty_all.ensures)

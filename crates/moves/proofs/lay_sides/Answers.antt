use Rattle.std.proofs.Common.{arith, ◌*◌}
use Rattle.moves.specs.Kept.{kept_then}
use Rattle.moves.specs.Laying.{emptied_kept, laying_none, laying_next, laying_all}
use Rattle.moves.proofs.lay_sides.Goals as goal

pub loop-v-init : goal.loop-v-init
loop-v-init c = let a = c.args in laying_none a.graph.now _ _ a.sides c.empty.ensures c.empty-2.ensures a.part.now c.requires.1 c.requires.2

pub loop-v-preserved : goal.loop-v-preserved
loop-v-preserved c =
    let a = c.args in
    let l = c.loop-v in
    laying_next _ a.sides a.part.now c.requires.1 c.requires.3 _ _ l.v c.from.result (omega (arith, c.loop-v-test.true)) c.from.ensures c.insert.ensures l.invariant

pub returns : goal.returns
returns c =
    let a = c.args in
    let l = c.loop-v in (
      laying_all _ a.sides a.part.now c.requires.1 c.requires.3 _ l.v (omega (arith, c.loop-v-test.false)) l.invariant,
      kept_then (a.sides * 2) a.graph.now _ _ (emptied_kept a.graph.now _ _ a.sides c.empty.ensures c.empty-2.ensures) l.invariant.kept,
    )

use Rattle.std.proofs.Common.{arith, ◌∙◌}
use Rattle.moves.specs.Split.{sides_as}
use Rattle.moves.specs.Rolled.{rolled_next}
use Rattle.moves.proofs.roll_back.Goals as goal

pub loop-i-preserved : goal.loop-i-preserved
loop-i-preserved c =
    let a = c.args in
    let l = c.loop-i in (
      omega (arith, c.loop-i-test.true),
      rolled_next a.words.now a.sides a.vw.now a.moves.now a.count (sides_as a.part.now a.loads.now) _ _ l.i c.from-v.result _ _
          (omega (arith, c.loop-i-test.true, c.saturating_sub-last.ensures)) (c.from-v.ensures ∙ c.get_or.ensures) l.invariant.1 c.move_vertex.ensures,
    )

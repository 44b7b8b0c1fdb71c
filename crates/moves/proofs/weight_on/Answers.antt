use Rattle.std.proofs.Common.{arith, ◌∙◌}
use Rattle.std.proofs.lemmas.List.{get_or_default}
use lib.Ieee.{of_bits}
use Rattle.spec.specs.Floats.{zero_float}
use Rattle.partition.specs.Folds.{range_next}
use Rattle.moves.specs.Sums.{weigh_step, weigh_here, weigh_off}
use Rattle.moves.proofs.weight_on.Goals as goal
use Rattle.moves.proofs.weight_on.Goals.{then-from-s, else-from-s}

pub loop-v-preserved : goal.loop-v-preserved
unfolding of_bits
loop-v-preserved c =
    let a = c.args in
    let l = c.loop-v in
    let t = c.loop-v-test.true in
    let side = c.from.ensures ∙ c.get_or.ensures in
    let more = range_next (weigh_step a.part.now a.vw.now a.s) zero_float l.sum c.if-from-s.sum l.v l.invariant.1 in (
      omega (arith, t),
      elim c.if-from-s.branch [
        | then-from-s w ↦ more (w.sum-is ∙ weigh_here a.part.now a.vw.now a.s l.v c.from.result l.sum _ side w.if-from-s.true (get_or_default a.vw.now l.v _ zero_float t))
        | else-from-s w ↦ more (w.sum-is ∙ weigh_off a.part.now a.vw.now a.s l.v c.from.result l.sum side w.if-from-s.false)
      ],
    )

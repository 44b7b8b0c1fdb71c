use Rattle.std.proofs.Common.{get_or, ap, ◌∙◌, arith}
use Rattle.nodebits.specs.Loops.{leg_next}
use Rattle.nodebits.proofs.leaf_size.Goals as goal

pub loop-leg-preserved : goal.loop-leg-preserved
loop-leg-preserved c =
    let d = c.args in
    let l = c.loop-leg in (
      leg_next d.effective.now d.leaf.now l.leg-index l.sum c.from-sum.result (omega arith) l.invariant.0 (c.from-sum.ensures ∙ c.get_or.ensures ∙ ap (λ x. get_or d.effective.now x 0) c.from.ensures),
      omega (arith, l.invariant.1, c.from-sum.ensures, c.get_or.ensures, c.requires.1 c.from.result),
    )

use Rattle.leafsets.specs.Search.{same_words, first_next}
use native.Mathlib.Omega.{arith}
use mathlib.Core.Path.{sym, ◌∙◌}
use Rattle.leafsets.proofs.find.Goals as goal

pub loop-u-preserved : goal.loop-u-preserved
loop-u-preserved c =
    let a = c.args in
    let l = c.loop-u in
    (omega arith, omega (arith, c.loop-u-test.true), l.invariant.2 ∙ first_next (same_words a.w a.ws.now a.s) l.u a.hi c.loop-u-test.true (sym c.same_set.ensures ∙ c.if-same_set.false))

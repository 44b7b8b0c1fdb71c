use Rattle.locals.specs.Unions.{tested_none, tested_yes, tested_no, tested_end, flag_yes, flag_no, flags_all}
use Rattle.spec.specs.Calls.{flag_at}
use native.Mathlib.Omega.{arith}
use mathlib.Core.Path.{refl, ap, ◌∙◌}
use lib.ListN.{length}
use Rattle.locals.proofs.flag_set.Goals as goal
use Rattle.locals.proofs.flag_set.Goals.{then-flag-ne0, else-flag-ne0}

pub loop-j-init : goal.loop-j-init
loop-j-init c = let a = c.args in (refl, tested_none a.words.now a.w a.s (flag_at a.flags.now) c.empty.new.words c.empty.ensures)

pub loop-j-preserved : goal.loop-j-preserved
loop-j-preserved c = let a = c.args in let l = c.loop-j in let z = c.empty.new.words in (
  elim c.if-flag-ne0.branch [ then-flag-ne0 k ↦ omega (arith, ap length k.words-is, k.insert.auto.words, l.invariant.0) | else-flag-ne0 k ↦ omega (arith, ap length k.words-is, l.invariant.0) ],
  elim c.if-flag-ne0.branch [ then-flag-ne0 k ↦ tested_yes z a.w a.s (flag_at a.flags.now) l.j l.words c.if-flag-ne0.words (flag_yes a.flags.now l.j k.if-flag-ne0.true) l.invariant.1 (k.words-is ∙ k.insert.ensures) | else-flag-ne0 k ↦ k.words-is ∙ tested_no z a.w a.s (flag_at a.flags.now) l.j l.words (flag_no a.flags.now l.j k.if-flag-ne0.false) l.invariant.1 ],
)

pub returns : goal.returns
returns c = let a = c.args in let l = c.loop-j in
    flags_all a.words.now l.words a.w a.s a.flags.now (tested_end a.words.now a.w a.s (flag_at a.flags.now) c.empty.new.words c.empty.ensures l.j (length a.flags.now) l.words (omega arith) l.invariant.1)

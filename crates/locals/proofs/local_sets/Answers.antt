use Rattle.locals.specs.Turns.{placed_next}
use native.Mathlib.Omega.{arith}
use lib.Pow.{pow-lt}
use lib.ListN.{length-set}
use mathlib.Core.Path.{◌∙◌}
use Rattle.locals.proofs.local_sets.Goals as goal

pub bounds-united-mask_count : goal.bounds-united-mask_count
bounds-united-mask_count c = let a = c.args in let l = c.loop-p in
    omega (arith, c.mask_count.ensures.0, l.invariant.0, length-set a.united.now 0 c.local_row.result, c.requires.3, pow-lt {i = l.p} {j = a.m} c.loop-p-test.true)

pub loop-p-preserved : goal.loop-p-preserved
loop-p-preserved c = let a = c.args in let l = c.loop-p in (
  length-set l.united c.mask_count.result c.local_row-in-loop-p.result ∙ l.invariant.0,
  placed_next a.sets.now a.w a.v a.members.now a.local.now a.c l.p c.mask_count.result c.from.result a.m l.united c.local_row-in-loop-p.result
      c.loop-p-test.true (omega (arith, l.invariant.0, length-set a.united.now 0 c.local_row.result, c.requires.3)) c.mask_count.ensures.0 (c.from.ensures ∙ c.get_or-member.ensures) c.local_row-in-loop-p.ensures l.invariant.1,
)

use Rattle.leafsets.specs.Search.{same_start, all_next, all_fails}
use borrow.Author.Tests.{eq-eqb, ne_eqb}
use lib.Dec.{eqb}
use native.Mathlib.Omega.{arith}
use Prim.Native.Nat.{◌+◌, ◌*◌}
use mathlib.Core.Path.{sym, ◌∙◌}
use lib.ListN.{get_or}
use Rattle.leafsets.proofs.same_set.Goals as goal

pub loop-k-init : goal.loop-k-init
loop-k-init c = let a = c.args in (omega arith, same_start a.w a.ws.now a.s a.u)

pub returns-then-get_or : goal.returns-then-get_or
returns-then-get_or c = let a = c.args in let l = c.loop-k in sym (l.invariant.1 ∙ all_fails (λ i. eqb (get_or a.ws.now (a.s * a.w + i) 0) (get_or a.ws.now (a.u * a.w + i) 0)) l.k a.w c.loop-k-test.true (ne_eqb _ _ (λ q. c.if-get_or.true (c.get_or.ensures ∙ q ∙ sym c.get_or-in-loop-k.ensures))))

pub loop-k-preserved : goal.loop-k-preserved
loop-k-preserved c = let a = c.args in let l = c.loop-k in (omega (arith, c.loop-k-test.true), l.invariant.1 ∙ all_next (λ i. eqb (get_or a.ws.now (a.s * a.w + i) 0) (get_or a.ws.now (a.u * a.w + i) 0)) l.k a.w c.loop-k-test.true (eq-eqb _ _ (sym c.get_or.ensures ∙ c.if-get_or.false ∙ c.get_or-in-loop-k.ensures)))

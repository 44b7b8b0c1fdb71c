use Rattle.walk.specs.Wrong.{not_wrong_length}
use Rattle.walk.specs.Order.{begins, ends, deep, internal, goes_on}
use native.Mathlib.Omega.{arith}
use mathlib.Core.Path.{◌≡◌, refl, ap, ◌∙◌}
use lib.ListN.{length, length-set}
use Rattle.walk.proofs.fill_order.Goals as goal

pub loop-rest-init : goal.loop-rest-init
loop-rest-init c = let a = c.args in let q = c.requires in (begins a.kids.now a.n q.0 q.2 a.out.now a.ws.now, omega arith, q.3, refl, refl)

pub overflow_cast-out : goal.overflow_cast-out
overflow_cast-out c = let a = c.args in let q = c.requires in let l = c.loop-rest in let m = c.loop-rest-test.true in let i = internal a.kids.now a.n q.0 q.2 a.out.now l.ws l.v l.p l.out l.rest l.invariant.0 m in omega (arith, i.0, i.1, q)

pub overflow_sub-j : goal.overflow_sub-j
overflow_sub-j c = let a = c.args in let q = c.requires in let l = c.loop-rest in let m = c.loop-rest-test.true in let i = internal a.kids.now a.n q.0 q.2 a.out.now l.ws l.v l.p l.out l.rest l.invariant.0 m in omega (arith, i.0, i.1, q)

pub overflow_mul-j : goal.overflow_mul-j
overflow_mul-j c = let a = c.args in let q = c.requires in let l = c.loop-rest in let m = c.loop-rest-test.true in let i = internal a.kids.now a.n q.0 q.2 a.out.now l.ws l.v l.p l.out l.rest l.invariant.0 m in omega (arith, i.0, i.1, q)

pub offset_bounds-kids-j : goal.offset_bounds-kids-j
offset_bounds-kids-j c = let a = c.args in let q = c.requires in let l = c.loop-rest in let m = c.loop-rest-test.true in let i = internal a.kids.now a.n q.0 q.2 a.out.now l.ws l.v l.p l.out l.rest l.invariant.0 m in omega (arith, i.0, i.1, q)

pub bounds-kids-j : goal.bounds-kids-j
bounds-kids-j c = let a = c.args in let q = c.requires in let l = c.loop-rest in let m = c.loop-rest-test.true in let i = internal a.kids.now a.n q.0 q.2 a.out.now l.ws l.v l.p l.out l.rest l.invariant.0 m in omega (arith, i.0, i.1, q, not_wrong_length a.n a.kids.now q.0 q.2)

pub overflow_add-j : goal.overflow_add-j
overflow_add-j c = let a = c.args in let q = c.requires in let l = c.loop-rest in let m = c.loop-rest-test.true in let i = internal a.kids.now a.n q.0 q.2 a.out.now l.ws l.v l.p l.out l.rest l.invariant.0 m in omega (arith, i.0, i.1, q)

pub offset_bounds-kids-j-in-loop-rest : goal.offset_bounds-kids-j-in-loop-rest
offset_bounds-kids-j-in-loop-rest c = let a = c.args in let q = c.requires in let l = c.loop-rest in let m = c.loop-rest-test.true in let i = internal a.kids.now a.n q.0 q.2 a.out.now l.ws l.v l.p l.out l.rest l.invariant.0 m in omega (arith, i.0, i.1, q)

pub bounds-kids-j-in-loop-rest : goal.bounds-kids-j-in-loop-rest
bounds-kids-j-in-loop-rest c = let a = c.args in let q = c.requires in let l = c.loop-rest in let m = c.loop-rest-test.true in let i = internal a.kids.now a.n q.0 q.2 a.out.now l.ws l.v l.p l.out l.rest l.invariant.0 m in omega (arith, i.0, i.1, q, not_wrong_length a.n a.kids.now q.0 q.2)

pub overflow_sub-p : goal.overflow_sub-p
overflow_sub-p c = let a = c.args in let q = c.requires in let l = c.loop-rest in let m = c.loop-rest-test.true in let d = deep a.kids.now a.n q.0 q.2 a.out.now l.ws l.v l.p l.out l.rest l.invariant.0 m in omega (arith, d, q, l.invariant.1, l.invariant.4)

pub loop-rest-preserved : goal.loop-rest-preserved
loop-rest-preserved c = let a = c.args in let q = c.requires in let l = c.loop-rest in let m = c.loop-rest-test.true in let g = goes_on a.kids.now a.n q.0 q.2 a.out.now l.ws l.v l.p l.out l.rest l.invariant.0 m l.invariant.2 q.1 q.4 c.from-left.result c.from-right.result c.from-left.ensures c.from-right.ensures c.next-top.new.ws c.next-top.result.node c.next-top.result.places _ c.next-top.ensures refl in let f : length c.next-top.new.ws ≡ length l.ws = ap length c.next-top.ensures.2 ∙ simp length-set in (g, g.shallow, omega (arith, f, l.invariant.2), f ∙ l.invariant.3, simp length-set l.invariant.4)

pub returns : goal.returns
returns c = let a = c.args in let q = c.requires in let l = c.loop-rest in ends a.kids.now a.n q.0 q.2 a.out.now l.ws l.v l.p l.out l.rest l.invariant.0 (omega arith)

use Rattle.walk.specs.Marks.{both_length}
use Rattle.walk.specs.Check.{begins, bounded, ends, internal, refuses, goes_on}
use native.Mathlib.Omega.{arith}
use Prim.Native.Nat.{◌+◌, ◌-◌, ◌*◌}
use mathlib.Core.Path.{◌≡◌, refl, ap, ◌∙◌}
use lib.ListN.{length, length-set}
use Rattle.std.proofs.lemmas.Bool.{not_from_true, not_from_false}
use Rattle.walk.proofs.meets_all.Goals as goal

pub loop-p-init : goal.loop-p-init
loop-p-init c = let a = c.args in let q = c.requires in (begins a.kids.now a.n q.0 q.1 q.2 a.ws.now q.3 q.4, omega arith, omega arith, simp length-set q.3, refl)

pub overflow_sub-j : goal.overflow_sub-j
overflow_sub-j c = let a = c.args in let q = c.requires in let l = c.loop-p in let i = internal a.kids.now a.n q.0 q.1 q.2 l.ws l.v l.p l.met l.invariant.0 c.loop-p-test.true in omega (arith, i.0, i.1, q)

pub overflow_mul-j : goal.overflow_mul-j
overflow_mul-j c = let a = c.args in let q = c.requires in let l = c.loop-p in let i = internal a.kids.now a.n q.0 q.1 q.2 l.ws l.v l.p l.met l.invariant.0 c.loop-p-test.true in omega (arith, i.0, i.1, q)

pub offset_bounds-kids-j : goal.offset_bounds-kids-j
offset_bounds-kids-j c = let a = c.args in let q = c.requires in let l = c.loop-p in let i = internal a.kids.now a.n q.0 q.1 q.2 l.ws l.v l.p l.met l.invariant.0 c.loop-p-test.true in omega (arith, i.0, i.1, q)

pub bounds-kids-j : goal.bounds-kids-j
bounds-kids-j c = let a = c.args in let q = c.requires in let l = c.loop-p in let i = internal a.kids.now a.n q.0 q.1 q.2 l.ws l.v l.p l.met l.invariant.0 c.loop-p-test.true in omega (arith, i.0, i.1, q)

pub overflow_add-j : goal.overflow_add-j
overflow_add-j c = let a = c.args in let q = c.requires in let l = c.loop-p in let i = internal a.kids.now a.n q.0 q.1 q.2 l.ws l.v l.p l.met l.invariant.0 c.loop-p-test.true in omega (arith, i.0, i.1, q)

pub offset_bounds-kids-j-in-loop-p : goal.offset_bounds-kids-j-in-loop-p
offset_bounds-kids-j-in-loop-p c = let a = c.args in let q = c.requires in let l = c.loop-p in let i = internal a.kids.now a.n q.0 q.1 q.2 l.ws l.v l.p l.met l.invariant.0 c.loop-p-test.true in omega (arith, i.0, i.1, q)

pub bounds-kids-j-in-loop-p : goal.bounds-kids-j-in-loop-p
bounds-kids-j-in-loop-p c = let a = c.args in let q = c.requires in let l = c.loop-p in let i = internal a.kids.now a.n q.0 q.1 q.2 l.ws l.v l.p l.met l.invariant.0 c.loop-p-test.true in omega (arith, i.0, i.1, q)

pub returns-then-not-mark_both : goal.returns-then-not-mark_both
returns-then-not-mark_both c = let a = c.args in let q = c.requires in let l = c.loop-p in refuses a.kids.now a.n q.0 q.1 q.2 l.ws l.v l.p l.met l.invariant.0 c.loop-p-test.true l.invariant.3 c.from-l.result c.from-r.result c.from-l.ensures c.from-r.ensures c.mark_both.result c.mark_both.ensures.0 (not_from_false _ c.if-not-mark_both.true)

pub loop-p-smaller : goal.loop-p-smaller
loop-p-smaller c = let a = c.args in let q = c.requires in let l = c.loop-p in let g = goes_on a.kids.now a.n q.0 q.1 q.2 l.ws l.v l.p l.met l.invariant.0 c.loop-p-test.true l.invariant.3 c.from-l.result c.from-r.result c.from-l.ensures c.from-r.ensures c.mark_both.result c.mark_both.ensures.0 (not_from_true _ c.if-not-mark_both.false) c.mark_both.new.ws c.next-top.new.ws c.next-top.result.node c.next-top.result.places c.mark_both.ensures.1 c.next-top.ensures in let m = bounded a.kids.now a.n q.0 q.1 q.2 c.next-top.new.ws c.next-top.result.node c.next-top.result.places (l.met + 2) g in omega (arith, m)

pub loop-p-preserved : goal.loop-p-preserved
loop-p-preserved c = let a = c.args in let q = c.requires in let l = c.loop-p in let g = goes_on a.kids.now a.n q.0 q.1 q.2 l.ws l.v l.p l.met l.invariant.0 c.loop-p-test.true l.invariant.3 c.from-l.result c.from-r.result c.from-l.ensures c.from-r.ensures c.mark_both.result c.mark_both.ensures.0 (not_from_true _ c.if-not-mark_both.false) c.mark_both.new.ws c.next-top.new.ws c.next-top.result.node c.next-top.result.places c.mark_both.ensures.1 c.next-top.ensures in let m = bounded a.kids.now a.n q.0 q.1 q.2 c.next-top.new.ws c.next-top.result.node c.next-top.result.places (l.met + 2) g in let e = ap length c.mark_both.ensures.1 ∙ both_length l.ws (a.n * 2 - 2) c.from-l.result c.from-r.result in let f : length c.next-top.new.ws ≡ length c.mark_both.new.ws = ap length c.next-top.ensures.2 ∙ simp length-set in (g, omega (arith, g.shallow, m), m, omega (arith, e, f, l.invariant.3), f ∙ e ∙ l.invariant.4)

pub returns : goal.returns
returns c = let a = c.args in let q = c.requires in let l = c.loop-p in ends a.kids.now a.n q.0 q.1 q.2 l.ws l.v l.p l.met l.invariant.0 (omega arith)

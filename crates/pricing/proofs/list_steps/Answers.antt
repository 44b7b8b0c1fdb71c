use borrow.Author.Rules.{rules}
use Rattle.laws.specs.FlatLaws.{left_of, right_of}
use Rattle.pricing.specs.Lines.{line_next, lines_end}
use Rattle.cells.specs.Cells.{copied_none}
use Rattle.nodesets.specs.Turns.{step_inner}
use native.Mathlib.Omega.{arith}
use Prim.Native.Nat.{ℕ}
use mathlib.Core.Path.{refl, ap}
use lib.ListN.{get_or}
use Rattle.pricing.proofs.list_steps.Goals as goal

pub loop-k-init : goal.loop-k-init
loop-k-init c = (omega arith, refl, copied_none _ _)

pub overflow_sub-at : goal.overflow_sub-at
overflow_sub-at c = let i = step_inner c.requires.0 c.loop-k.k c.from-v.result (omega arith) c.from-v.ensures in i.0

pub bounds-kids-at : goal.bounds-kids-at
bounds-kids-at c = let i = step_inner c.requires.0 c.loop-k.k c.from-v.result (omega arith) c.from-v.ensures in omega (arith, i.0, i.1)

pub bounds-kids-at-in-loop-k : goal.bounds-kids-at-in-loop-k
bounds-kids-at-in-loop-k c = let i = step_inner c.requires.0 c.loop-k.k c.from-v.result (omega arith) c.from-v.ensures in omega (arith, i.0, i.1)

pub bounds-list-v : goal.bounds-list-v
bounds-list-v c = let i = step_inner c.requires.0 c.loop-k.k c.from-v.result (omega arith) c.from-v.ensures in omega (arith, i.1)

pub bounds-list-v-in-loop-k : goal.bounds-list-v-in-loop-k
bounds-list-v-in-loop-k c = let i = step_inner c.requires.0 c.loop-k.k c.from-v.result (omega arith) c.from-v.ensures in omega (arith, i.1)

pub loop-k-preserved : goal.loop-k-preserved
loop-k-preserved c = let d = c.args in let l = c.loop-k in let w = c.from-v in (omega arith, search rules, line_next (left_of d.tree.now.kids.now d.tree.now.leaves) (right_of d.tree.now.kids.now d.tree.now.leaves) d.list.now.works.now d.list.now.sizes.now d.order.now d.steps.now l.steps _ l.k _ _ _ _ _ (omega arith) l.invariant.2 refl (ap (left_of d.tree.now.kids.now d.tree.now.leaves) w.ensures) (ap (right_of d.tree.now.kids.now d.tree.now.leaves) w.ensures) (ap (λ (x : ℕ). get_or d.list.now.works.now x 0) w.ensures) (ap (λ (x : ℕ). get_or d.list.now.sizes.now x 0) w.ensures) c.put_step.ensures)

pub returns : goal.returns
returns c = let d = c.args in let l = c.loop-k in lines_end (left_of d.tree.now.kids.now d.tree.now.leaves) (right_of d.tree.now.kids.now d.tree.now.leaves) d.list.now.works.now d.list.now.sizes.now d.order.now d.steps.now l.steps l.k (omega arith) l.invariant.2

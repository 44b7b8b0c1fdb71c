use Rattle.passes.specs.Loops.{walking_next, walked_rebuilt, walked_tried}
use Rattle.network.specs.Views.{net_in}
use Rattle.spec.specs.Calls.{flag_at}
use native.Mathlib.Omega.{arith}
use mathlib.Core.Path.{refl, ◌∙◌}
use Rattle.passes.proofs.visit_all.Goals as goal

pub overflow_add-rebuilt : goal.overflow_add-rebuilt
overflow_add-rebuilt c = let a = c.args in let s = a.task.now.search.clamped in let l = c.loop-v in
    omega (arith, walked_rebuilt (net_in a.task.now.network) (flag_at a.task.now.search.flags.now) a.task.now.search.k a.task.now.search.limit l.invariant.2 (omega (arith, s.0)) s.1 c.visit-made.ensures.visits, l.invariant.2.few_rebuilt, c.loop-v-test.true, c.requires.nodes.0)

pub overflow_add-tried : goal.overflow_add-tried
overflow_add-tried c = let a = c.args in let s = a.task.now.search.clamped in let l = c.loop-v in
    omega (arith, walked_tried (net_in a.task.now.network) (flag_at a.task.now.search.flags.now) a.task.now.search.k a.task.now.search.limit l.invariant.2 (omega (arith, s.0)) s.1 c.visit-made.ensures.visits, l.invariant.2.few_tried, c.loop-v-test.true, c.requires.nodes.0)

pub loop-v-preserved : goal.loop-v-preserved
loop-v-preserved c = let a = c.args in let s = a.task.now.search.clamped in let l = c.loop-v in let e = c.visit-made.ensures in (
  (e.lent.0 ∙ l.invariant.0.0, e.lent.1 ∙ l.invariant.0.1, e.lent.2 ∙ l.invariant.0.2),
  (e.long.0 ∙ l.invariant.1.0, e.long.1 ∙ l.invariant.1.1, e.long.2 ∙ l.invariant.1.2),
  walking_next (net_in a.task.now.network) (flag_at a.task.now.search.flags.now) a.task.now.search.k a.task.now.search.limit l.invariant.2 (omega (arith, s.0)) s.1 e.visits c.loop-v-test.true refl,
)

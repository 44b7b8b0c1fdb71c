use Rattle.nodebits.specs.Loops.{tests_shared, tests_dropped}
use Rattle.nodebits.specs.Weights.{weighed_more}
use Rattle.slots.specs.Weigh.{weighed_none}
use mathlib.Core.List.{[]}
use native.Mathlib.Omega.{arith}
use mathlib.Core.Path.{refl}
use Rattle.nodebits.proofs.overlap.Goals as goal

pub loop-k-init : goal.loop-k-init
loop-k-init c = (omega arith, weighed_none _ _ _, weighed_none _ _ _, omega arith, omega arith)

pub loop-k-preserved : goal.loop-k-preserved
loop-k-preserved c = let d = c.args in let l = c.loop-k in (omega arith, weighed_more d.effective.now [] _ l.k _ l.shared c.weigh_word-shared.result (tests_shared d.sets.now d.w d.l d.r d.v l.k _ _ _ refl refl refl) l.invariant.1 c.weigh_word-shared.ensures.0, weighed_more d.effective.now [] _ l.k _ l.dropped c.weigh_word-dropped.result (tests_dropped d.sets.now d.w d.l d.r d.v l.k _ _ _ refl refl refl) l.invariant.2 c.weigh_word-dropped.ensures.0, omega (arith, c.weigh_word-shared.ensures.1), omega (arith, c.weigh_word-dropped.ensures.1))

use Rattle.coarsen.specs.Joined.{joined_of, joined_one, joined}
use Rattle.cells.specs.Loop.{turns_none, turns_next}
use native.Mathlib.Omega.{arith}
use mathlib.Core.Path.{sym}
use Rattle.coarsen.proofs.join_all.Goals as goal

pub loop-v-init : goal.loop-v-init
unfolding joined
loop-v-init c = (omega arith, sym (turns_none _ _), omega arith)

pub loop-v-preserved : goal.loop-v-preserved
unfolding joined
loop-v-preserved c = let a = c.args in let l = c.loop-v in (omega (arith, c.loop-v-test.true), turns_next (joined_one a.vw.now a.mates.now) (joined_of a.places.now a.coarse.now 0) l.v l.invariant.1 c.join-c.ensures.0, omega (arith, c.join-c.ensures.1, l.invariant.2))

use Rattle.steplines.specs.Lines.{steps_none, steps_more}
use native.Mathlib.Omega.{arith}
use Rattle.steplines.proofs.listed.Listed.put_steps.Goals as goal

pub loop-k-init : goal.loop-k-init
loop-k-init c = let s = c.args.self.now in
    record { within = omega arith; written = steps_none s.steps.now s.sets.now s.width s.index_count _; short = omega arith }

pub loop-k-preserved : goal.loop-k-preserved
loop-k-preserved c = let s = c.args.self.now in
    record { within = omega arith; written = steps_more s.steps.now s.sets.now s.width s.index_count c.loop-k.k c.loop-k.invariant.written c.put_step.ensures.written; short = omega arith }

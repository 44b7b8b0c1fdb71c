use Rattle.text.specs.Lines.{slices_none, slices_more}
use Rattle.spec.specs.Calls.{flag_at}
use native.Mathlib.Omega.{arith}
use Rattle.text.proofs.figures.put_slices.Goals as goal

pub loop-j-init : goal.loop-j-init
loop-j-init c = record { within = omega arith; written = slices_none _ (flag_at c.args.flags.now); short = omega arith }

pub loop-j-preserved : goal.loop-j-preserved
loop-j-preserved c = record { within = omega arith; written = slices_more (flag_at c.args.flags.now) c.loop-j.j c.loop-j.invariant.written c.put_slice.ensures.written; short = omega arith }

use Rattle.text.specs.Lines.{flag_clear, flag_set, slice_in, slice_out, slice_length}
use native.Mathlib.Omega.{arith}
use Rattle.text.proofs.figures.put_slice.Goals as goal

pub returns-then-get_or-ne0 : goal.returns-then-get_or-ne0
returns-then-get_or-ne0 c = record { written = slice_in _ _ (flag_set _ _ c.get_or.ensures c.if-get_or-ne0.true) c.put_line.ensures.written; short = omega (arith, c.put_line.ensures.written.put.past, slice_length c.args.j (omega arith)) }

pub returns-else-get_or-ne0 : goal.returns-else-get_or-ne0
returns-else-get_or-ne0 c = record { written = slice_out _ _ _ (flag_clear _ _ c.get_or.ensures c.if-get_or-ne0.false); short = omega arith }

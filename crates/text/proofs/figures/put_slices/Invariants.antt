use Rattle.spec.specs.Text.{lines_of, slice_line}
use Rattle.spec.specs.Calls.{flag_at}
use Rattle.spec.specs.Lists.{keep, range}
use Rattle.steplines.specs.Puts.{Puts}
use Prim.Native.Nat.{◌+◌, ◌*◌, ◌≤◌}
use Rattle.text.proofs.figures.put_slices.Given as goal

abbrev pub invariant-loop-j : goal.invariant-loop-j
invariant-loop-j l = record { within : l.j ≤ l.m; written : Puts l.initial.text (lines_of slice_line (keep (flag_at l.flags) (range l.j))) l.text; short : l.text.len ≤ l.initial.text.len + l.j * 10 }

use Rattle.spec.specs.Text.{spaced}
use Rattle.steplines.specs.Puts.{Puts}
use Prim.Native.Nat.{◌+◌, ◌*◌, ◌≤◌}
use lib.ListN.{take}
use Rattle.steplines.proofs.listed.put_numbers.Given as goal

abbrev pub invariant-loop-x : goal.invariant-loop-x
invariant-loop-x l = record { written : Puts l.initial.text (spaced (take l.x-index l.list)) l.text; short : l.text.len ≤ l.initial.text.len + l.x-index * 6 }

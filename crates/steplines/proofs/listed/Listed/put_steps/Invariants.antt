use Rattle.steplines.specs.Steps.{steps_from}
use Rattle.steplines.specs.Puts.{Puts}
use Rattle.spec.specs.Text.{lines_of, step_line}
use Prim.Native.Nat.{◌+◌, ◌*◌, ◌≤◌}
use Rattle.steplines.proofs.listed.Listed.put_steps.Given as goal

abbrev pub invariant-loop-k : goal.invariant-loop-k
invariant-loop-k l = record { within : l.k ≤ l.n; written : Puts l.initial.text (lines_of step_line (steps_from l.self.steps.now l.self.sets.now l.self.width l.self.index_count l.k)) l.text; short : l.text.len ≤ l.initial.text.len + l.k * 949 }

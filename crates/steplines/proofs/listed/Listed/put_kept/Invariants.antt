use Rattle.slots.specs.Slots.{held}
use Rattle.spec.specs.Text.{spaced}
use Rattle.spec.specs.Lists.{keep, range}
use Rattle.steplines.specs.Puts.{Puts}
use Prim.Native.Nat.{◌≤◌}
use Rattle.steplines.proofs.listed.Listed.put_kept.Given as goal

abbrev pub invariant-loop-j : goal.invariant-loop-j
invariant-loop-j l = record { within : l.j ≤ l.self.index_count; written : Puts l.initial.text (spaced (keep (held l.self.sets.now l.self.width l.v) (range l.j))) l.text }

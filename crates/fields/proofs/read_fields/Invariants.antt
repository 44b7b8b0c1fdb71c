use Rattle.fields.specs.Whole.{Reached, Room}
use Rattle.fields.specs.Scans.{record_in}
use lib.ListN.{length}
use Rattle.fields.proofs.read_fields.Given as goal

abbrev pub invariant-loop-rest : goal.invariant-loop-rest
invariant-loop-rest l = record { reached : Reached l.file l.rest l.scan (record_in l.scan.counts l.weights l.leg_counts l.legs l.outputs); room : Room l.weights l.leg_counts l.legs l.outputs }

abbrev pub decreases-loop-rest : goal.decreases-loop-rest
decreases-loop-rest l = length l.rest

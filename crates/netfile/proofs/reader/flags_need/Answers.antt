use Rattle.netfile.specs.Writes.{lack_flags}
use Rattle.netfile.proofs.reader.flags_need.Goals as goal

pub returns-in-Flagged : goal.returns-in-Flagged
returns-in-Flagged c = λ places. rw c.in-Flagged.is (lack_flags c.args.network.now c.in-Flagged.field-0.now places)

use Rattle.payloads.specs.Payload.{flags_refusal}
use Rattle.netwrite.proofs.check_ask.Goals as goal

pub returns-in-Flagged : goal.returns-in-Flagged
unfolding flags_refusal
returns-in-Flagged c = rw (c.in-Flagged.is, ← c.index_count.ensures) c.check_flags.ensures

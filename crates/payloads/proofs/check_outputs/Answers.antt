use Rattle.payloads.specs.Payload.{outputs_refusal}
use borrow.Author.Tests.{lt-ltb, le-ltb}
use Rattle.payloads.proofs.check_outputs.Goals as goal

pub returns-then-bytes-gt-MAX_OUTPUTS : goal.returns-then-bytes-gt-MAX_OUTPUTS
unfolding outputs_refusal
returns-then-bytes-gt-MAX_OUTPUTS c = rw (lt-ltb _ _ c.if-bytes-gt-MAX_OUTPUTS.true)

pub returns : goal.returns
unfolding outputs_refusal
returns c = rw (le-ltb _ _ c.if-bytes-gt-MAX_OUTPUTS.false) c.check_indices.ensures

use Rattle.payloads.specs.Payload.{weights_refusal}
use borrow.Author.Tests.{lt-ltb, le-ltb}
use Rattle.payloads.proofs.check_weights.Goals as goal

pub returns-then-bytes-gt-MAX_INDICES : goal.returns-then-bytes-gt-MAX_INDICES
unfolding weights_refusal
returns-then-bytes-gt-MAX_INDICES c = rw (lt-ltb _ _ c.if-bytes-gt-MAX_INDICES.true)

pub returns-then-above : goal.returns-then-above
unfolding weights_refusal
returns-then-above c = rw (le-ltb _ _ c.if-bytes-gt-MAX_INDICES.false, ← c.above.ensures, c.if-above.true)

pub returns : goal.returns
unfolding weights_refusal
returns c = rw (le-ltb _ _ c.if-bytes-gt-MAX_INDICES.false, ← c.above.ensures, c.if-above.false)

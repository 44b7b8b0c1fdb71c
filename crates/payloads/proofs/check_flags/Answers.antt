use Rattle.payloads.specs.Payload.{flags_refusal}
use borrow.Author.Tests.{lt-ltb, le-ltb}
use Rattle.payloads.proofs.check_flags.Goals as goal

pub returns-then-bytes-m : goal.returns-then-bytes-m
unfolding flags_refusal
returns-then-bytes-m c = rw (lt-ltb _ _ c.if-bytes-m.true)

pub returns-then-above : goal.returns-then-above
unfolding flags_refusal
returns-then-above c = rw (le-ltb _ _ c.if-bytes-m.false, ← c.above.ensures, c.if-above.true)

pub returns : goal.returns
unfolding flags_refusal
returns c = rw (le-ltb _ _ c.if-bytes-m.false, ← c.above.ensures, c.if-above.false)

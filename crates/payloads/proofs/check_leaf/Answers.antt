use Rattle.payloads.specs.Payload.{leaf_refusal}
use borrow.Author.Tests.{lt-ltb, le-ltb, le-leb, lt-leb}
use Rattle.payloads.proofs.check_leaf.Goals as goal

pub returns-then-bytes-gt-MAX_LEGS : goal.returns-then-bytes-gt-MAX_LEGS
unfolding leaf_refusal
returns-then-bytes-gt-MAX_LEGS c = rw (lt-ltb _ _ c.if-bytes-gt-MAX_LEGS.true)

pub returns-then-n-ge-MAX_LEAVES : goal.returns-then-n-ge-MAX_LEAVES
unfolding leaf_refusal
returns-then-n-ge-MAX_LEAVES c = rw (le-ltb _ _ c.if-bytes-gt-MAX_LEGS.false, le-leb _ _ c.if-n-ge-MAX_LEAVES.true)

pub returns : goal.returns
unfolding leaf_refusal
returns c = rw (le-ltb _ _ c.if-bytes-gt-MAX_LEGS.false, lt-leb _ _ c.if-n-ge-MAX_LEAVES.false) c.check_indices.ensures

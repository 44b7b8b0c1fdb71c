use Rattle.netfile.specs.Writes.{flags_cleared, flags_all}
use mathlib.Core.Path.{refl, ◌∙◌}
use lib.ListN.{length}
use Rattle.netfile.proofs.reader.put_flags.Goals as goal

pub returns-then-n-m : goal.returns-then-n-m
returns-then-n-m c = let f = c.in-Flagged.given.now in
    rw c.in-Flagged.is (flags_cleared c.args.flags.now f _ _ (length f) c.args.m c.put_bytes.ensures refl c.if-n-m.true (rw c.in-Flagged.is at c.requires) c.fill.ensures)

pub returns-else-n-m : goal.returns-else-n-m
returns-else-n-m c = let f = c.in-Flagged.given.now in
    rw c.in-Flagged.is (c.put_bytes.ensures ∙ flags_all c.args.flags.now f (length f) c.args.m refl c.if-n-m.false)

use Rattle.rebuild.specs.Writes.{part_some, part_zero, part_whole}
use Rattle.subset.specs.Walk.{split_at}
use Rattle.rebuild.proofs.part_of.Goals as goal

pub returns-then-l-eq0 : goal.returns-then-l-eq0
returns-then-l-eq0 c = part_zero (split_at c.args.part.now) c.args.s c.get_or-l.result c.get_or-l.ensures c.if-l-eq0.true

pub returns-then-l-s : goal.returns-then-l-s
returns-then-l-s c = part_some (split_at c.args.part.now) c.args.s c.get_or-l.result c.get_or-l.ensures c.if-l-eq0.false c.if-l-s.true

pub returns-else-l-s : goal.returns-else-l-s
returns-else-l-s c = part_whole (split_at c.args.part.now) c.args.s c.get_or-l.result c.get_or-l.ensures c.if-l-s.false

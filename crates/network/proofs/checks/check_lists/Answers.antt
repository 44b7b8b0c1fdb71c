use Rattle.network.specs.Codes.{rows, answer_large, answer_heavy, answer_beyond, answer_repeat, answer_none}
use Rattle.network.proofs.checks.check_lists.Goals as goal

pub returns-then-is_too_large : goal.returns-then-is_too_large
returns-then-is_too_large c = answer_large _ _ _ _ c.requires c.is_too_large.ensures c.if-is_too_large.true

pub returns-then-above : goal.returns-then-above
returns-then-above c = answer_heavy _ _ _ _ c.requires c.is_too_large.ensures c.if-is_too_large.false c.above.ensures c.if-above.true

pub is_out_of_range-requires : goal.is_out_of_range-requires
is_out_of_range-requires c = rows _ _ _ _ c.requires c.is_too_large.ensures c.if-is_too_large.false

pub returns-then-is_out_of_range : goal.returns-then-is_out_of_range
returns-then-is_out_of_range c = answer_beyond _ _ _ _ c.requires c.is_too_large.ensures c.if-is_too_large.false c.above.ensures c.if-above.false c.is_out_of_range.ensures c.if-is_out_of_range.true

pub is_repeated-requires : goal.is_repeated-requires
is_repeated-requires c = rows _ _ _ _ c.requires c.is_too_large.ensures c.if-is_too_large.false

pub returns-then-is_repeated : goal.returns-then-is_repeated
returns-then-is_repeated c = answer_repeat _ _ _ _ c.requires c.is_too_large.ensures c.if-is_too_large.false c.above.ensures c.if-above.false c.is_out_of_range.ensures c.if-is_out_of_range.false c.is_repeated.ensures c.if-is_repeated.true

pub returns : goal.returns
returns c = answer_none _ _ _ _ c.requires c.is_too_large.ensures c.if-is_too_large.false c.above.ensures c.if-above.false c.is_out_of_range.ensures c.if-is_out_of_range.false c.is_repeated.ensures c.if-is_repeated.false

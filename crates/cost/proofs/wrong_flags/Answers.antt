use Rattle.cost.specs.Checks.{many_flags, few_flags}
use mathlib.Core.Path.{◌∙◌}
use Rattle.cost.proofs.wrong_flags.Goals as goal

pub returns-then-m-flags : goal.returns-then-m-flags
returns-then-m-flags c = many_flags c.args.m c.args.flags.now c.if-m-flags.true

pub returns : goal.returns
returns c = c.above.ensures ∙ few_flags c.args.m c.args.flags.now c.if-m-flags.false

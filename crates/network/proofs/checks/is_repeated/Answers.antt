use Rattle.network.specs.Codes.{repeat_leaf, repeat_output}
use Rattle.network.proofs.checks.is_repeated.Goals as goal

pub returns-then-leaves_repeated : goal.returns-then-leaves_repeated
returns-then-leaves_repeated c = repeat_leaf 0 _ _ _ _ c.leaves_repeated.ensures c.if-leaves_repeated.true

pub returns : goal.returns
returns c = repeat_output 0 _ _ _ _ c.leaves_repeated.ensures c.if-leaves_repeated.false c.repeated.ensures

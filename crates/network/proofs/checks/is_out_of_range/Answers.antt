use Rattle.network.specs.Codes.{beyond_leaf, beyond_output}
use Rattle.network.proofs.checks.is_out_of_range.Goals as goal

pub returns-then-leaves_out_of_range : goal.returns-then-leaves_out_of_range
returns-then-leaves_out_of_range c = beyond_leaf _ _ _ _ _ c.leaves_out_of_range.ensures c.if-leaves_out_of_range.true

pub returns : goal.returns
returns c = beyond_output _ _ _ _ _ c.leaves_out_of_range.ensures c.if-leaves_out_of_range.false c.out_of_range.ensures

use Rattle.slicing.specs.Nodes.{size_above, added_nothing}
use borrow.Author.Tests.{le-ltb}
use Rattle.slicing.proofs.tallies.add_size.Goals as goal

pub returns-then-size-target : goal.returns-then-size-target
returns-then-size-target c = let a = c.args in added_nothing (size_above a.target a.size) _ _ (rw (le-ltb a.target a.size c.if-size-target.true))

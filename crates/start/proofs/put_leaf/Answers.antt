use Rattle.start.specs.Leaves.{leaf_put}
use mathlib.Core.Path.{◌∙◌}
use Rattle.start.proofs.put_leaf.Goals as goal

pub returns : goal.returns
returns c = let d = c.args in leaf_put d.w d.counts.now d.legs.now d.sets.now _ _ d.s d.v _ (c.from-count.ensures ∙ c.get_or.ensures) c.empty.ensures c.put_all.ensures

use Rattle.nodesets.specs.Sets.{leaf_turn, with_sets_none}
use mathlib.Core.Path.{◌∙◌}
use Rattle.nodesets.proofs.leaf_sets.Goals as goal

pub loop-i-init : goal.loop-i-init
loop-i-init c = with_sets_none _ _ _

pub loop-i-preserved : goal.loop-i-preserved
loop-i-preserved c = let d = c.args in leaf_turn _ _ _ _ _ d.counts.now d.legs.now _ _ c.loop-i.invariant c.empty.ensures (c.from-count.ensures ∙ c.get_or.ensures) c.put_all.ensures

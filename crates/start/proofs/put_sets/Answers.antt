use Rattle.start.specs.Leaves.{sets_started}
use Rattle.start.proofs.put_sets.Goals as goal

pub returns : goal.returns
returns c = let d = c.args in
    sets_started d.w d.n d.counts.now d.legs.now d.outputs.now d.leaves.now d.sets.now _ _ _ c.put_list.ensures c.put_outside.ensures c.put_leaves.ensures

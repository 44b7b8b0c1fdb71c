use Rattle.slots.specs.Writes.{refilled}
use lib.ListN.{length}
use Rattle.start.proofs.put_list.Goals as goal

pub returns : goal.returns
returns c = let d = c.args in refilled d.sets.now _ _ d.w d.s d.list.now 0 (length d.list.now) c.empty.ensures c.put_all.ensures

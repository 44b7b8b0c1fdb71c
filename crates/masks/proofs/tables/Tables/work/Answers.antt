use Rattle.masks.specs.Tables.{work_at}
use Rattle.masks.proofs.tables.Tables.work.Goals as goal

pub returns : goal.returns
unfolding work_at
returns c = c.weigh.ensures

use Rattle.putfields.specs.Put.{put_both, put_lent}
use Rattle.putfields.proofs.put_indices.Goals as goal

pub returns : goal.returns
returns c = put_both c.put_header-next.ensures (put_lent _ _ _ _ c.narrow.ensures)

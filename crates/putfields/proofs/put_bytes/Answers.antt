use Rattle.putfields.specs.Put.{put_both, put_lent}
use Rattle.cells.specs.Cells.{copied_all}
use mathlib.Core.Path.{◌∙◌}
use Rattle.putfields.proofs.put_bytes.Goals as goal

pub returns : goal.returns
returns c = put_both c.put_header-next.ensures (put_lent _ _ _ _ (c.copy.ensures ∙ copied_all _ _))

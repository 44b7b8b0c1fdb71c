use mathlib.Core.Path.{◌∙◌}
use Rattle.cells.specs.Cells.{copied_all}
use Rattle.host.proofs.calls.put_counts.Goals as goal

pub returns : goal.returns
returns c = c.copy.ensures ∙ copied_all c.args.answer.now _

use mathlib.Core.Path.{ap, ◌∙◌}
use Rattle.spec.specs.Memory.{cleared}
use Rattle.cells.specs.Cells.{cleared_back, cleared-min}
use Rattle.cells.proofs.clear.Goals as goal

pub returns : goal.returns
returns c =
    let ws = c.args.words.now in
    cleared_back ws _ _ c.fill.ensures ∙ ap (cleared ws) c.min-n.ensures ∙ cleared-min ws _

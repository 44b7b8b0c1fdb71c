use mathlib.Core.Path.{ap, ◌∙◌}
use Rattle.spec.specs.Memory.{over}
use Rattle.cells.specs.Cells.{copied_all}
use Rattle.memory.specs.Numbers.{numbers_are}
use Rattle.memory.proofs.put_answer.Goals as goal

pub returns : goal.returns
returns c =
    let a = c.args in
    c.copy.ensures ∙ copied_all a.answer.now _
    ∙ ap (over a.answer.now) (numbers_are a.prices.now c.total_kind.ensures c.exact.ensures c.widest_number.ensures c.from.ensures)

use Rattle.steplines.specs.Puts.{puts_both}
use Rattle.steplines.proofs.digits.Text.put_line.Goals as goal

pub returns-clause-written : goal.returns-clause-written
returns-clause-written c = puts_both c.put_word.ensures (puts_both c.put_number.ensures.written c.put_word-2.ensures)

use Rattle.steplines.specs.Digits.{put_spaced}
use Rattle.steplines.proofs.digits.Text.put_number.Goals as goal

pub returns-clause-written : goal.returns-clause-written
returns-clause-written c = put_spaced _ c.put_word.ensures c.put_decimal.ensures.written

use Rattle.steplines.specs.Digits.{put_bare}
use Rattle.steplines.proofs.digits.Text.put_bare_line.Goals as goal

pub returns-clause-written : goal.returns-clause-written
returns-clause-written c = put_bare c.put_word.ensures c.put_word-2.ensures

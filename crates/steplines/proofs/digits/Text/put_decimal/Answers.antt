use Rattle.steplines.specs.Puts.{puts_as}
use Rattle.steplines.specs.Digits.{decimal_same}
use mathlib.Core.Path.{◌∙◌}
use Rattle.steplines.proofs.digits.Text.put_decimal.Goals as goal

pub returns-clause-written : goal.returns-clause-written
returns-clause-written c = puts_as (c.as_bytes.ensures.value ∙ c.format.ensures.text ∙ decimal_same c.args.x c.ranges.x.fits) c.put_word.ensures

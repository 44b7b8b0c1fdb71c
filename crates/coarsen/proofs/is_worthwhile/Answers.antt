use Rattle.coarsen.specs.Level.{enough}
use mathlib.Core.Bool.{not}
use lib.Ieee.{of_bits, of_int, round}
use mathlib.Core.Path.{sym, ap}
use Rattle.coarsen.proofs.is_worthwhile.Goals as goal

pub returns-then-n-left : goal.returns-then-n-left
unfolding enough of_bits of_int round
returns-then-n-left c = sym (ap not c.if-n-left.true)

pub returns : goal.returns
unfolding enough of_bits of_int round
returns c = sym (ap not c.if-n-left.false)

use lib.Ieee.{of_bits, round}
use Rattle.bisect.specs.Eps.{thousandths, at_least, at_most, between}
use Rattle.bisect.proofs.ends.imbalance.Goals as goal

pub returns-then-x : goal.returns-then-x
unfolding of_bits round
returns-then-x c = at_least c.args.i _ (thousandths c.args.i c.requires) c.if-x.true

pub returns-then-x-2 : goal.returns-then-x-2
unfolding of_bits round
returns-then-x-2 c = at_most c.args.i _ (thousandths c.args.i c.requires) c.if-x.false c.if-x-2.true

pub returns : goal.returns
unfolding of_bits round
returns c = between c.args.i _ (thousandths c.args.i c.requires) c.if-x.false c.if-x-2.false

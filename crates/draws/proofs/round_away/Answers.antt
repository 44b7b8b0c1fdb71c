use Rattle.std.proofs.Common.{T, sym, subst}
use lib.Ieee.{of_bits, neg}
use Rattle.draws.specs.Rounding.{big_neg, big_pos, level, asks_neg, neg_near}
use Rattle.draws.proofs.round_away.Goals as goal

pub near-requires : goal.near-requires
unfolding of_bits neg
near-requires c = asks_neg c.args.x c.if-x.true c.if-x-2.true

pub returns-then-x-2 : goal.returns-then-x-2
unfolding of_bits
returns-then-x-2 c = neg_near c.args.x c.near.result c.if-x.true c.near.ensures

pub returns-then-x : goal.returns-then-x
unfolding of_bits neg
returns-then-x c = big_neg c.args.x (subst T (sym c.well_formed.0.1) tt) c.if-x.true c.if-x-2.false

pub near-requires-then-x-4 : goal.near-requires-then-x-4
unfolding of_bits
near-requires-then-x-4 c = (subst T (sym c.if-x-3.true) tt, subst T (sym c.if-x-4.true) tt)

pub returns-then-x-3 : goal.returns-then-x-3
unfolding of_bits
returns-then-x-3 c = big_pos c.args.x (subst T (sym c.well_formed.0.1) tt) c.if-x-3.true c.if-x-4.false

pub returns : goal.returns
unfolding of_bits
returns c = level c.args.x (subst T (sym c.well_formed.0.1) tt) c.if-x.false c.if-x-3.false

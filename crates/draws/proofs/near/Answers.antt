use Rattle.std.proofs.Common.{◌+◌, ◌^◌, ◌<◌, arith, le→leb}
use lib.Ieee.{in_float, of_bits}
use Rattle.draws.specs.Rounding.{asks_trunc, whole_part, near_low, near_high}
use Rattle.draws.proofs.near.Goals as goal

pub truncating_f64_to_u64-n-requires-clause-lower_bound : goal.truncating_f64_to_u64-n-requires-clause-lower_bound
truncating_f64_to_u64-n-requires-clause-lower_bound c = (asks_trunc c.args.y c.requires).0

pub truncating_f64_to_u64-n-requires-clause-upper_bound : goal.truncating_f64_to_u64-n-requires-clause-upper_bound
truncating_f64_to_u64-n-requires-clause-upper_bound c = (asks_trunc c.args.y c.requires).1

pub int_to_float-n : goal.int_to_float-n
unfolding in_float
int_to_float-n c = le→leb c.truncating_f64_to_u64-n.result 9007199254740992 (omega (arith, (let the-small : c.truncating_f64_to_u64-n.result < 2 ^ 52 = whole_part c.args.y c.requires c.truncating_f64_to_u64-n.result c.truncating_f64_to_u64-n.ensures in the-small)))

pub int_to_float-result : goal.int_to_float-result
unfolding in_float
int_to_float-result c = le→leb c.truncating_f64_to_u64-n.result 9007199254740992 (omega (arith, (let the-small : c.truncating_f64_to_u64-n.result < 2 ^ 52 = whole_part c.args.y c.requires c.truncating_f64_to_u64-n.result c.truncating_f64_to_u64-n.ensures in the-small)))

pub overflow_add-result : goal.overflow_add-result
overflow_add-result c = record { fits = omega (arith, (let the-small : c.truncating_f64_to_u64-n.result < 2 ^ 52 = whole_part c.args.y c.requires c.truncating_f64_to_u64-n.result c.truncating_f64_to_u64-n.ensures in the-small)) }

pub int_to_float-result-else-y-n : goal.int_to_float-result-else-y-n
unfolding in_float
int_to_float-result-else-y-n c = le→leb (c.truncating_f64_to_u64-n.result + 1) 9007199254740992 (omega (arith, (let the-small : c.truncating_f64_to_u64-n.result < 2 ^ 52 = whole_part c.args.y c.requires c.truncating_f64_to_u64-n.result c.truncating_f64_to_u64-n.ensures in the-small)))

pub returns-then-y-n : goal.returns-then-y-n
unfolding of_bits
returns-then-y-n c =
    near_low c.args.y c.requires c.truncating_f64_to_u64-n.result c.truncating_f64_to_u64-n.ensures c.if-y-n.true

pub returns-else-y-n : goal.returns-else-y-n
unfolding of_bits
returns-else-y-n c =
    near_high c.args.y c.requires c.truncating_f64_to_u64-n.result c.truncating_f64_to_u64-n.ensures c.if-y-n.false

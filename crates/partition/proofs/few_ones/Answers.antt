use Rattle.partition.specs.Few.{one_set, two_set}
use Prim.Native.Nat.{◌^◌, ◌<◌}
use native.Mathlib.Omega.{arith}
use Rattle.partition.proofs.few_ones.Goals as goal

pub returns-then-x-eq0-2 : goal.returns-then-x-eq0-2
returns-then-x-eq0-2 c = let f = c.ranges in let b : c.args.x < 2 ^ 64 = omega arith in (one_set c.args.x c.if-x-eq0.false b c.if-x-eq0-2.true, omega arith)

pub returns : goal.returns
returns c = let f = c.ranges in let b : c.args.x < 2 ^ 64 = omega arith in (two_set c.args.x c.if-x-eq0.false b c.if-x-eq0-2.false, omega arith)

use lib.Pow.{pow_mono, pow_pos}
use Rattle.bits.specs.Bit.{one_shl}
use native.Mathlib.Omega.{arith}
use Rattle.subset.proofs.mask_count.Goals as goal

pub returns : goal.returns
returns c = let m = c.args.m in let e = one_shl m (omega arith) in (e, omega (arith, e, pow_pos m), omega (arith, e, pow_mono {i = m} {j = 12} (omega arith)))

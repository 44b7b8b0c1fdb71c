use lib.Pow.{pow_mono}
use Rattle.bits.specs.Bit.{one_shl}
use native.Mathlib.Omega.{arith}
use Prim.Native.Nat.{◌^◌, ◌≤◌}
use Rattle.slicing.proofs.tallies.exp2.Goals as goal

pub returns : goal.returns
returns c = let b = c.args.b in let m : 2 ^ b ≤ 2 ^ 52 = pow_mono (let q : b ≤ 52 = omega arith in q) in (one_shl b (omega arith), rw (one_shl b (omega arith)) (omega arith))

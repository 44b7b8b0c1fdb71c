use native.Mathlib.Nat.{pow-le-pow_right}
use borrow.Author.Tests.{lt-ltb, le-ltb}
use Rattle.scores.specs.Scores.{power}
use Rattle.bits.specs.Bit.{one_shl}
use native.Mathlib.Omega.{arith}
use Prim.Native.Nat.{◌≤◌}
use Rattle.scores.proofs.exp2.Goals as goal

pub returns-then-bits-lt41 : goal.returns-then-bits-lt41
unfolding power
returns-then-bits-lt41 c = let b = c.args.bits in
    let h : b ≤ 40 = omega arith in
    (rw (one_shl b (omega arith), lt-ltb b 41 c.if-bits-lt41.true), rw (one_shl b (omega arith)) (pow-le-pow_right {n = 2} (omega arith) h))

pub returns-else-bits-lt41 : goal.returns-else-bits-lt41
unfolding power
returns-else-bits-lt41 c = (rw (le-ltb c.args.bits 41 c.if-bits-lt41.false), omega arith)

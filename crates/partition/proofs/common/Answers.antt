use Prim.Native.Nat.{◌≤◌}
use native.Mathlib.Omega.{arith}
use lib.Bits.{bit_and, and_le_r}
use Rattle.partition.specs.Common.{common_next, common_end}
use Rattle.partition.proofs.common.Goals as goal

pub loop-k-preserved : goal.loop-k-preserved
loop-k-preserved c =
    let d = c.args in
    let l = c.loop-k in
    let x = c.get_or-x.result in
    let y = c.get_or-y.result in
    let b : bit_and x y ≤ y = and_le_r x y in (
      omega arith,
      common_next d.words.now d.w d.a d.b l.k l.n x y c.count_ones-n.result l.invariant.1
          c.get_or-x.ensures c.get_or-y.ensures (omega arith) c.count_ones-n.ensures.0,
      omega (arith, c.count_ones-n.ensures.1, l.invariant.2),
    )

pub returns : goal.returns
returns c =
    let d = c.args in
    common_end d.words.now d.w d.a d.b c.loop-k.k c.loop-k.n (omega arith) c.loop-k.invariant.1

use Rattle.partition.specs.Few.{few_common}
use lib.Bits.{bit_and, and_le_r}
use Prim.Native.Nat.{◌^◌, ◌<◌, ◌≤◌}
use native.Mathlib.Omega.{arith}
use Rattle.partition.proofs.few.Goals as goal

pub returns : goal.returns
returns c ws p q =
    let a = c.args.a in
    let b = c.args.b in
    let b₀ : bit_and a.low b.low ≤ b.low = and_le_r a.low b.low in
    let b₁ : bit_and a.high b.high ≤ b.high = and_le_r a.high b.high in
    let lo : bit_and a.low b.low < 2 ^ 64 = omega arith in
    let hi : bit_and a.high b.high < 2 ^ 64 = omega arith in
    few_common ws a.slot b.slot a.low b.low a.high b.high c.few_ones.result c.few_ones-2.result p.0 q.0 p.1 q.1 lo hi c.few_ones.ensures.0 c.few_ones-2.ensures.0

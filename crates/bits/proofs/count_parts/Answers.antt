use native.Mathlib.Numerals.{add-one}
use Rattle.bits.specs.Splits.{parts_count}
use Rattle.bits.specs.Submask.{parts_below, step_down, and_part, below_one}
use lib.Bits.{and_le_l, and_le_r}
use native.Mathlib.Omega.{arith}
use Prim.Native.Nat.{◌-◌}
use mathlib.Core.Path.{◌≡◌, ap}
use Rattle.bits.proofs.count_parts.Goals as goal

pub loop-sub-preserved : goal.loop-sub-preserved
loop-sub-preserved c =
    let s = c.loop-sub.sub in
    let r = c.args.rest in
    (and_part (s - 1) r, and_le_r (s - 1) r, omega (arith, and_le_l (s - 1) r), omega (arith, step_down r s (omega arith) c.loop-sub.invariant.0))

pub returns : goal.returns
returns c =
    let s0 : c.loop-sub.sub ≡ 0 = c.if-sub-eq0.true in
    let r = c.args.rest in
    omega (arith, below_one r c.loop-sub.sub s0, add-one r, ap (parts_below r) (add-one r), parts_count 64 r (omega arith))

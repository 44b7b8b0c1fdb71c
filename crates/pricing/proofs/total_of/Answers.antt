use Rattle.pricing.specs.Sums.{part_length, part_at, sum_none, sum_next, beyond_at, beyond_step}
use native.Mathlib.Omega.{arith}
use mathlib.Core.Path.{refl}
use Prim.Native.Nat.{◌+◌, ◌<◌}
use Rattle.pricing.proofs.total_of.Goals as goal

pub loop-bits-init : goal.loop-bits-init
loop-bits-init c = (sum_none _ _, omega arith)

pub returns-then-bits-ge53 : goal.returns-then-bits-ge53
returns-then-bits-ge53 c =
    let d = c.args in
    let k = c.loop-bits.bits-index in
    let b : k < d.c = omega (arith, part_length d.works.now d.n d.c c.requires) in
    beyond_step d.works.now d.n k d.c _ b (part_at d.works.now d.n d.c k _ b refl) c.if-bits-ge53.true

pub returns-then-sum-ge9007199254740992 : goal.returns-then-sum-ge9007199254740992
returns-then-sum-ge9007199254740992 c =
    let d = c.args in
    let k = c.loop-bits.bits-index in
    let b : k < d.c = omega (arith, part_length d.works.now d.n d.c c.requires) in
    beyond_at d.works.now d.n (k + 1) d.c _ (omega arith) (sum_next d.works.now d.n k _ _ c.loop-bits.invariant.0 (part_at d.works.now d.n d.c k _ b refl) c.if-bits-ge53.false) c.if-sum-ge9007199254740992.true

pub loop-bits-preserved : goal.loop-bits-preserved
loop-bits-preserved c =
    let d = c.args in
    let k = c.loop-bits.bits-index in
    let b : k < d.c = omega (arith, part_length d.works.now d.n d.c c.requires) in
    (sum_next d.works.now d.n k _ _ c.loop-bits.invariant.0 (part_at d.works.now d.n d.c k _ b refl) c.if-bits-ge53.false, c.if-sum-ge9007199254740992.false)

use mathlib.Core.List.{[]}
use Rattle.slots.specs.Weigh.{either, weighed}
use Rattle.start.specs.Leaves.{with_sizes, put_front}
use native.Mathlib.Omega.{arith}
use Prim.Native.Nat.{◌*◌}
use Rattle.std.proofs.lemmas.List.{length-take-le}
use mathlib.Core.Path.{◌∙◌}
use Rattle.start.proofs.weigh_all.Goals as goal

pub returns : goal.returns
unfolding with_sizes
returns c =
    let d = c.args in
    let s = d.scoring.now in
    let l = c.loop-i in
    let low = length-take-le c.min-most.result d.sizes.now (omega (arith, c.min-most.ensures)) in
    put_front (λ i. weighed s.weights.now [] (either d.sets.now s.width i i) (s.width * 64)) d.sizes.now l.size-items d.n c.min-most.result c.min-most.ensures (l.invariant.0 ∙ low)
    (λ k h. l.invariant.1 k (omega (arith, h, low, c.loop-i-test.false)))

use Rattle.start.specs.Leaves.{put_front}
use native.Mathlib.Omega.{arith}
use Rattle.std.proofs.lemmas.List.{length-take-le}
use mathlib.Core.Path.{◌∙◌}
use Rattle.start.proofs.count_up.Goals as goal

pub returns : goal.returns
returns c =
    let d = c.args in
    let l = c.loop-i in
    let low = length-take-le c.min-most.result d.list.now (omega (arith, c.min-most.ensures)) in
    put_front (λ i. i) d.list.now l.place-items d.n c.min-most.result c.min-most.ensures (l.invariant.0 ∙ low) (λ k h. l.invariant.1 k (omega (arith, h, low, c.loop-i-test.false)))

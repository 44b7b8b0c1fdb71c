use Rattle.std.proofs.Common.{arith}
use Rattle.slots.specs.Weigh.{weigh_most, weigh_end}
use Rattle.slots.proofs.weigh_word.Goals as goal

pub overflow_add-sum : goal.overflow_add-sum
overflow_add-sum c =
    let d = c.args in
    omega (arith, c.open_weight-sum.ensures.1, weigh_most d.weights.now d.flags.now d.base c.requires.1 d.x _ c.loop-i.sum (omega arith) c.loop-i.invariant.1)

pub returns : goal.returns
returns c = let d = c.args in weigh_end d.weights.now d.flags.now d.base c.requires.1 d.x _ c.loop-i.sum (omega arith) c.in-None.ensures.steps.0 c.loop-i.invariant.1

use Rattle.std.proofs.Common.{◌≡◌, ◌+◌, ◌<◌, [], sym, ap, subst, ◌∙◌, arith}
use Rattle.spec.specs.Lists.{sum_of}
use Rattle.spec.specs.Members.{All}
use Rattle.bits.specs.Lowest.{places}
use Rattle.slots.specs.Weigh.{open_weight, weigh_most, weigh_end}
use Rattle.nodebits.specs.Loops.{places_below}
use Rattle.nodebits.proofs.weigh_word.Goals as goal

pub loop-i-init : goal.loop-i-init
loop-i-init c =
    let d = c.args in
    let g = c.into_iter-i-iterator.ensures.into_iter_gives in
    let a = c.above-i-items.ensures in
    let e : places c.into_iter-i-iterator.result.base 64 c.into_iter-i-iterator.result.rest ≡ places d.base 64 d.x =
    (λ j. places (g j).base 64 (g j).rest) ∙ (λ j. places (a.0 j) 64 (a.1 j)) in
    (tt, omega (arith, ap (sum_of (open_weight d.effective.now [])) e), subst (All (λ i. i < d.base + 64)) (sym e) (places_below d.base 64 d.x))

pub overflow_add-sum : goal.overflow_add-sum
overflow_add-sum c =
    let d = c.args in
    omega (arith, c.from-sum.ensures, c.requires.1 c.in-Some.i, weigh_most d.effective.now [] d.base c.requires.1 d.x _ c.loop-i.sum (omega arith) c.loop-i.invariant.1)

pub returns : goal.returns
returns c = let d = c.args in weigh_end d.effective.now [] d.base c.requires.1 d.x _ c.loop-i.sum (omega arith) c.in-None.ensures.steps.0 c.loop-i.invariant.1

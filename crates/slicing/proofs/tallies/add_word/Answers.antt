use Rattle.std.proofs.Common.{◌≡◌, ◌+◌, ◌<◌, ap, sym, subst, ◌∙◌, arith}
use Rattle.std.specs.Prelude.{map}
use Rattle.spec.specs.Members.{All}
use Rattle.bits.specs.Lowest.{places}
use Rattle.slots.specs.Rising.{places_below}
use Rattle.slicing.specs.Words.{places_from, adding_none, adding_small}
use Rattle.slicing.proofs.tallies.add_word.Goals as goal

pub loop-i-init : goal.loop-i-init
loop-i-init c =
    let d = c.args in
    let g = c.into_iter-i-iterator.ensures.into_iter_gives in
    let a = c.of-i-items.ensures in
    let e : places c.into_iter-i-iterator.result.base 64 c.into_iter-i-iterator.result.rest ≡ places 0 64 d.x =
    (λ j. places (g j).base 64 (g j).rest) ∙ (λ j. places (a.0 j) 64 (a.1 j)) in
    (tt, adding_none (ap (map (λ i. d.base + i)) e ∙ places_from d.base d.x), subst (All (λ i. i < 64)) (sym e) (places_below 0 d.x 64 (omega arith)))

pub overflow_add-sums : goal.overflow_add-sums
overflow_add-sums c = omega (arith, adding_small c.loop-i.invariant.1 4611686018427387904 c.requires.1 (c.args.base + c.in-Some.i))

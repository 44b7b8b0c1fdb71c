use Rattle.std.proofs.Common.{◌≡◌, ◌∙◌, sym, ap, subst, arith, length, ◌+◌, ◌<◌}
use Rattle.std.proofs.lemmas.List.Edits.{sets}
use Rattle.spec.specs.Members.{All}
use Rattle.bits.specs.Lowest.{places}
use Rattle.slots.specs.Rising.{put_most, put_end, places_below}
use Rattle.slots.proofs.members_word.Goals as goal

pub loop-i-init : goal.loop-i-init
loop-i-init c =
    let d = c.args in
    let it = c.into_iter-i-iterator.result in
    let same = c.into_iter-i-iterator.ensures.into_iter_gives in
    let e : places it.base 64 it.rest ≡ places d.base 64 d.x
    = (λ j. places (same j).base 64 (same j).rest) ∙ (λ j. places (c.above-i-items.ensures.0 j) 64 (c.above-i-items.ensures.1 j)) in (
      tt,
      (ap (sets d.out.now d.at) e, ap (λ l. d.at + length l) e),
      subst (λ l. All (λ k. k < 65536) l) (sym e) (places_below d.base d.x 65536 (omega (arith, c.requires.0))),
    )

pub overflow_add-n : goal.overflow_add-n
overflow_add-n c =
    let d = c.args in
    omega (arith, put_most d.out.now d.at d.base d.x c.loop-i.out c.loop-i.n _ (omega arith) c.loop-i.invariant.1, c.requires.1)

pub returns : goal.returns
returns c = let d = c.args in put_end d.out.now d.at d.base d.x c.loop-i.out c.loop-i.n _ (omega arith) c.in-None.ensures.steps.0 c.loop-i.invariant.1

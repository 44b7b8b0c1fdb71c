use Rattle.std.proofs.Common.{◌≡◌, ◌∙◌, sym, subst, arith}
use Rattle.bits.specs.Lowest.{places}
use Rattle.queue.specs.Queues.{queue_of}
use Rattle.fm.specs.Words.{places_few, Entering, entering_all, entering_next}
use Rattle.fm.proofs.lists.enter_word.Goals as goal

pub loop-u-init : goal.loop-u-init
loop-u-init c =
    let d = c.args in
    let g = d.graph.now in
    let it = c.into_iter-u-iterator.result in
    let same = c.into_iter-u-iterator.ensures.into_iter_gives in
    let e : places it.base 64 it.rest ≡ places d.base 64 d.pins
    = (λ j. places (same j).base 64 (same j).rest) ∙ (λ j. places (c.above-u-items.ensures.0 j) 64 (c.above-u-items.ensures.1 j)) in (
      tt,
      subst (λ l. Entering g.words.now g.place g.weights.now d.locked (places d.base 64 d.pins) (queue_of d.keys.now d.stamps.now d.waiting.now d.draws.now) l (queue_of d.keys.now d.stamps.now d.waiting.now d.draws.now)) (sym e)
          (entering_all g.words.now g.place g.weights.now d.locked (places d.base 64 d.pins) _ (places_few d.base d.pins (omega arith)) c.requires.2 c.requires.3),
    )

pub loop-u-preserved : goal.loop-u-preserved
loop-u-preserved c =
    let d = c.args in
    let g = d.graph.now in
    (tt, entering_next g.words.now g.place g.weights.now d.locked (places d.base 64 d.pins) _ _ _ _ _ _ c.loop-u.invariant.1 c.in-Some.ensures.steps c.enter_again.ensures)

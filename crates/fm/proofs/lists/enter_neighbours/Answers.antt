use Rattle.std.proofs.Common.{◌≡◌, ◌∙◌, sym, subst, arith, refl, ◌+◌, ◌*◌, ◌<◌}
use Rattle.std.proofs.Math.Seq.{take-length}
use Rattle.spec.specs.Members.{All}
use Rattle.bits.specs.Lowest.{places}
use Rattle.queue.specs.Queues.{queue_of}
use Rattle.fm.specs.Neighbours.{neighbours_again}
use Rattle.fm.specs.Words.{nets_low, EnteringNets, nets_all, nets_next, before_all}
use Rattle.fm.proofs.lists.enter_neighbours.Goals as goal

pub loop-e-init : goal.loop-e-init
loop-e-init c =
    let d = c.args in
    let g = d.graph.now in
    let l = c.loop-k in
    let s = g.place.vertices + d.v in
    let it = c.into_iter-e-iterator.result in
    let same = c.into_iter-e-iterator.ensures.into_iter_gives in
    let x = c.get_or-nets.result in
    let few : l.k < 4 = omega (arith, c.loop-k-test.true) in
    let e : places it.base 64 it.rest ≡ places (l.k * 64) 64 x
    = (λ j. places (same j).base 64 (same j).rest) ∙ (λ j. places (c.above-e-items.ensures.0 j) 64 (c.above-e-items.ensures.1 j)) in
    let low : All (λ u. u < g.place.net_count) (places (l.k * 64) 64 x)
    = subst (λ y. All (λ u. u < g.place.net_count) (places (l.k * 64) 64 y)) (sym c.get_or-nets.ensures)
    (nets_low g.words.now g.place g.weights.now d.locked g.placed.laid d.v l.k c.requires.1 few) in (
      tt,
      subst (λ m. EnteringNets g.words.now g.place g.weights.now d.locked s l.k (queue_of d.keys.now d.stamps.now d.waiting.now d.draws.now) m (queue_of l.keys l.stamps l.waiting l.draws)) (sym e)
          (nets_all g.words.now g.place g.weights.now d.locked s l.k x _ _ few (omega arith) c.get_or-nets.ensures low c.requires.2 l.invariant.1),
    )

pub loop-e-preserved : goal.loop-e-preserved
loop-e-preserved c =
    let d = c.args in
    let g = d.graph.now in
    (tt, nets_next g.words.now g.place g.weights.now d.locked (g.place.vertices + d.v) c.loop-k.k _ _ _ _ _ _ c.loop-e.invariant.1 c.in-Some.ensures.steps c.enter_net.ensures)

pub returns : goal.returns
returns c =
    let a = c.args in
    let g = a.graph.now in
    let l = c.loop-k in
    neighbours_again g.words.now g.place g.weights.now a.locked a.v _ _ _ _ g.placed.laid c.requires.1 (take-length _) refl
    (before_all g.words.now g.place g.weights.now a.locked (g.place.vertices + a.v) l.k _ _ (omega (arith, c.loop-k-test.false)) l.invariant.1)

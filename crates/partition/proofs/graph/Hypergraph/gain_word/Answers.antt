use Rattle.std.proofs.Common.{◌≡◌, ◌∙◌, sym, ap, subst, arith, ◌<◌}
use Rattle.spec.specs.Members.{All}
use Rattle.spec.specs.Hypergraph.{fold_over}
use Rattle.bits.specs.Lowest.{places}
use Rattle.slots.specs.Rising.{places_below}
use Rattle.partition.specs.Layout.{gain_step}
use Rattle.partition.proofs.graph.Hypergraph.gain_word.Goals as goal

pub loop-e-init : goal.loop-e-init
loop-e-init c =
    let d = c.args in
    let it = c.into_iter-e-iterator.result in
    let same = c.into_iter-e-iterator.ensures.into_iter_gives in
    let e : places it.base 64 it.rest ≡ places d.base 64 d.x
    = (λ j. places (same j).base 64 (same j).rest) ∙ (λ j. places (c.above-e-items.ensures.0 j) 64 (c.above-e-items.ensures.1 j)) in (
      tt,
      ap (λ l. fold_over (gain_step d.self.now.words.now d.self.now.place.nets d.here.slot d.there.slot d.self.now.weights.now) l d.g) e,
      subst (λ l. All (λ k. k < 65536) l) (sym e) (places_below d.base d.x 65536 (omega (arith, c.requires.0))),
    )

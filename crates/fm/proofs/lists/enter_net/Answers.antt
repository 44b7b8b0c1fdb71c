use Rattle.std.proofs.Common.{arith, refl, sym, ◌<◌}
use Rattle.std.proofs.Math.Path.{subst}
use Rattle.std.proofs.Math.Seq.{take-length}
use Rattle.spec.specs.Members.{All}
use Rattle.bits.specs.Lowest.{places}
use Rattle.fm.specs.NetAgain.{net_again}
use Rattle.fm.specs.Words.{pins_low, two_words, places_few, low_word}
use Rattle.fm.proofs.lists.enter_net.Goals as goal

pub enter_word-requires : goal.enter_word-requires
enter_word-requires c =
    let a = c.args in
    let g = a.graph.now in (
      c.requires.0,
      omega arith,
      subst (λ x. All (λ u. u < g.place.vertex_count) (places 0 64 x)) (sym c.get_or-low.ensures)
          (low_word g.words.now g.place g.weights.now a.locked g.placed.laid a.e c.requires.1),
      λ u. omega (arith, c.requires.2 u),
    )

pub enter_word-requires-2 : goal.enter_word-requires-2
enter_word-requires-2 c =
    let a = c.args in
    let g = a.graph.now in (
      c.requires.0,
      omega arith,
      subst (λ x. All (λ u. u < g.place.vertex_count) (places 64 64 x)) (sym c.get_or-high.ensures)
          (pins_low g.words.now g.place g.weights.now a.locked g.placed.laid a.e 1 c.requires.1 (omega arith)),
      λ u. omega (arith, c.enter_word.ensures.stamps 2147483648 c.requires.2 u, places_few 0 c.get_or-low.result (omega arith)),
    )

pub returns : goal.returns
returns c =
    let a = c.args in
    let g = a.graph.now in
    net_again g.words.now g.place g.weights.now a.locked a.e _ _ _ _ (take-length _) refl
    (two_words g.words.now g.place g.weights.now a.locked a.e c.get_or-low.result c.get_or-high.result _ _ _ c.get_or-low.ensures c.get_or-high.ensures c.enter_word.ensures c.enter_word-2.ensures)

use Rattle.std.proofs.Common.{arith, sym, subst, ◌<◌}
use Rattle.partition.specs.Layout.{graph_in, place_of, Laid}
use Rattle.partition.specs.Cuts.{IsCutWeight}
use Rattle.partition.specs.declared.place.Place.{Place}
use Rattle.moves.specs.Kept.{site_kept}
use Rattle.moves.specs.Split.{site_placed}
use Rattle.initial.specs.Tried.{grown_sided, tried}
use Rattle.initial.proofs.try_once.Goals as goal

pub fm_in-requires : goal.fm_in-requires
fm_in-requires c = let a = c.args in let p = c.requires in let y = a.layout.now in (
  p.2,
  omega (arith, p.0),
  grown_sided (graph_in a.words.now y.nets y.net_weights.now y.net_count y.vertex_weights.now) _ a.draws.now _ c.grown.ensures,
)

pub cut-requires : goal.cut-requires
cut-requires c =
    let a = c.args in let p = c.requires in let f = c.fm_in.ensures in let o = place_of a.layout.now in
    subst (λ (x : Place). (x.nets < 32768) × (x.sides < 32768) × Laid c.fm_in.new.words x.nets x.vertices x.sides x.net_count x.vertex_count) (sym c.place.ensures)
    (p.2.low.0, omega (arith, p.2.low.2), (site_placed _ o _ (site_kept a.words.now _ o p.2 f.kept) f.split).laid)

pub returns : goal.returns
returns c = let a = c.args in let y = a.layout.now in
    tried y.net_weights.now y.vertex_weights.now y.nets y.vertices y.sides y.net_count a.most_weight a.draws.now _ _ a.words.now _ _ _ c.cut.result c.requires.2 c.grown.ensures c.fm_in.ensures
    (subst (λ (x : Place). IsCutWeight c.fm_in.new.words x.nets x.sides y.net_weights.now x.net_count x.vertex_count c.cut.result) c.place.ensures c.cut.ensures)

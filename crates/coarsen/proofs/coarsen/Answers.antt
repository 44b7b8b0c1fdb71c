use Rattle.std.proofs.Common.{◌∙◌, sym}
use Rattle.coarsen.specs.Level.{drawn_paired, coarsened}
use Rattle.coarsen.proofs.coarsen.Goals as goal

pub level-size-requires : goal.level-size-requires
level-size-requires c =
    let p = c.requires in
    let a = c.args in
    let y = a.layout.now in
    let paired = drawn_paired a.words.now y.nets y.net_weights.now y.net_count y.vertex_weights.now a.limit a.draws.now _ _ c.match_all.ensures p.some_left in
    (p.meshed.few.0, p.meshed.few.1, p.within, paired, p.fits.0, p.fits.1, p.fits.2, p.behind.0, p.behind.1, p.behind.2, p.low.2, p.low.3)

pub returns-then-is_worthwhile : goal.returns-then-is_worthwhile
returns-then-is_worthwhile c =
    let a = c.args in
    let y = a.layout.now in
    let l = c.level-size in
    record {
      same = coarsened a.words.now y.nets y.net_weights.now y.net_count y.vertex_weights.now a.limit a.draws.now _ _ c.match_all.ensures _ a.slots.nets _ l.result.nets _ l.result.vertices _ _
          (l.ensures.0.level_is a.limit) l.ensures.1 (sym c.if-is_worthwhile.true ∙ c.is_worthwhile.ensures);
      level = l.ensures.0;
    }

pub returns : goal.returns
returns c =
    let a = c.args in
    let y = a.layout.now in
    let l = c.level-size in
    record {
      same = coarsened a.words.now y.nets y.net_weights.now y.net_count y.vertex_weights.now a.limit a.draws.now _ _ c.match_all.ensures _ a.slots.nets _ l.result.nets _ l.result.vertices _ _
          (l.ensures.0.level_is a.limit) l.ensures.1 (sym c.if-is_worthwhile.false ∙ c.is_worthwhile.ensures);
      level = l.ensures.0;
    }

use Rattle.std.proofs.Common.{arith, length, length-take-le, ◌∷◌, [], rules}
use Rattle.partition.specs.Layout.{place_of}
use Rattle.moves.specs.Kept.{site_kept}
use Rattle.refine.specs.Passes.{split_as, halves, halves_as}
use Rattle.refine.proofs.fm_in.Goals as goal

pub all_passes-requires : goal.all_passes-requires
all_passes-requires c =
    let a = c.args in
    let g = a.layout.now in
    let p = c.requires in
    let l = c.lay_sides in
    let f = p.0.mesh.few.1 in (
      site_kept a.words.now _ (place_of g) p.0 l.ensures.1,
      split_as _ g.sides (length a.part.now) (length g.vertex_weights.now) a.part.now p.1 l.ensures.0,
      length-take-le (length g.vertex_weights.now) _ (omega (arith, f)),
      omega (arith, f),
    )

pub returns : goal.returns
returns c =
    let a = c.args in
    let g = a.layout.now in
    let s = c.all_passes.new.split in
    halves_as g.net_weights.now g.vertex_weights.now (place_of g) a.most_weight a.most a.words.now s.words.now _ a.part.now s.part.now _ a.draws.now c.all_passes.new.draws
    (search rules) (search rules)
    (halves g.net_weights.now g.vertex_weights.now g.nets g.vertices g.sides g.net_count a.most_weight a.most a.words.now _ _ a.part.now _ _ _ _ _ c.all_passes.result
    c.requires.0 c.lay_sides.ensures.1 (λ i. c.weight_on-left.ensures i ∷ c.weight_on-right.ensures i ∷ []) c.all_passes.ensures.leads)

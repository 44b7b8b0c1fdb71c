use Rattle.std.proofs.Common.{arith, refl, take}
use Rattle.bisect.specs.Through.{at_least, tried_stage, tried_more, tried_none, fewer_there, back_stage, through_level_lem, back_bits, up_to, fewer_than, third_of, projected_on}
use Rattle.spec.specs.Fm.{fm}
use Rattle.spec.specs.Bisection.{initial}
use Rattle.levels.specs.Layouts.{stage_read, gives_read}
use Rattle.bisect.proofs.+multilevel.Goals as goal

pub initial_at-requires : goal.initial_at-requires
initial_at-requires t c =
    let p = c.requires in
    let k = c.in-Err.ensures.tried in
    (stage_read c.weights-weights.ensures (tried_stage k p.0), p.1)

pub returns-in-Err-clause-through : goal.returns-in-Err-clause-through
returns-in-Err-clause-through t c =
    let a = c.args in
    let k = c.in-Err.ensures.tried in
    tried_none k c.requires.0 a.most_weight (third_of a.most_weight) refl
    (gives_read a.level.number a.level.size.nets a.level.size.vertices (λ G. initial G a.most_weight c.coarsen_at.new.draws) c.weights-weights.ensures c.initial_at.ensures)

pub multilevel-requires : goal.multilevel-requires
multilevel-requires t c =
    let p = c.requires in
    let k = tried_more c.in-Ok.ensures.tried p.0 refl in
    let q = k.1 in (
      fewer_than _ _ t (fewer_there q p.0 k.0 refl) c.decreases,
      (q.stage refl, up_to _ _ _ q.fewer p.1),
    )

pub refine_at-requires : goal.refine_at-requires
refine_at-requires t c =
    let p = c.requires in
    let h = p.0 in
    let k = tried_more c.in-Ok.ensures.tried h refl in
    let q = k.1 in
    let o = k.0 in
    let b = c.multilevel.ensures.through in (
      stage_read c.weights-weights-in-Ok.ensures (back_stage q h o b),
      at_least c.args.level.size.vertices _ _ (omega arith) p.1,
      back_bits q h o b c.project_at.new.part (projected_on _ _ _ c.project_at.ensures c.to_next.ensures),
    )

pub returns-in-Ok-clause-through : goal.returns-in-Ok-clause-through
returns-in-Ok-clause-through t c =
    let a = c.args in
    let k = tried_more c.in-Ok.ensures.tried c.requires.0 refl in
    through_level_lem k.1 c.requires.0 k.0 c.multilevel.ensures.through c.project_at.new.part
    (third_of a.most_weight) refl (projected_on _ _ _ c.project_at.ensures c.to_next.ensures)
    (gives_read a.level.number a.level.size.nets a.level.size.vertices (λ G. fm G a.most_weight 4 (take a.level.size.vertices c.project_at.new.part) c.multilevel.new.draws) c.weights-weights-in-Ok.ensures c.refine_at.ensures)

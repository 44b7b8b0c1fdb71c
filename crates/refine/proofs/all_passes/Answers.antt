use Rattle.std.proofs.Common.{arith, ◌∙◌, ◌+◌, true, false}
use Rattle.partition.specs.Layout.{place_of}
use Rattle.moves.specs.Kept.{site_kept}
use Rattle.refine.specs.Passes.{refined_as, passes_next, passes_as, passes_stop}
use Rattle.refine.proofs.all_passes.Goals as goal

pub one_pass-requires : goal.one_pass-requires
one_pass-requires c =
    let a = c.args in
    let i = c.loop.invariant in
    let p = i.2 in (
      site_kept a.split.now.words.now c.loop.split.words.now (place_of a.layout.now) c.requires.0 p.kept,
      p.split,
      i.3 ∙ c.requires.2,
      omega (arith, i.4, c.requires.3),
    )

pub returns-then-not-one_pass-clause-leads : goal.returns-then-not-one_pass-clause-leads
returns-then-not-one_pass-clause-leads c =
    let a = c.args in
    let g = a.layout.now in
    let l = c.loop in
    let s = c.one_pass.new.split in
    let x = refined_as a.split.now.part.now a.split.now.loads true a.draws.now in
    passes_stop g.net_weights.now g.vertex_weights.now g.nets g.vertices g.sides g.net_count a.most_weight a.most a.split.now.words.now x s.words.now s.part.now s.loads
    c.one_pass.new.draws (l.counter + 1)
    (passes_as g.net_weights.now g.vertex_weights.now g.nets g.vertices g.sides g.net_count a.most_weight a.most a.split.now.words.now x s.words.now s.part.now s.loads
    c.one_pass.new.draws c.one_pass.result false (l.counter + 1) c.if-not-one_pass.true
    (passes_next g.net_weights.now g.vertex_weights.now g.nets g.vertices g.sides g.net_count a.most_weight a.most a.split.now.words.now x l.split.words.now s.words.now
    l.split.part.now l.split.loads l.draws _ l.counter c.requires.0 c.loop-test.true l.invariant.2 c.one_pass.ensures.leads))

pub loop-preserved : goal.loop-preserved
loop-preserved c =
    let a = c.args in
    let g = a.layout.now in
    let l = c.loop in
    let s = c.one_pass.new.split in
    let e = c.one_pass.ensures in
    let x = refined_as a.split.now.part.now a.split.now.loads true a.draws.now in (
      omega (arith, c.loop-test.true),
      (e.lent.0 ∙ l.invariant.1.0, e.lent.1 ∙ l.invariant.1.1),
      passes_as g.net_weights.now g.vertex_weights.now g.nets g.vertices g.sides g.net_count a.most_weight a.most a.split.now.words.now x s.words.now s.part.now s.loads
          c.one_pass.new.draws c.one_pass.result true (l.counter + 1) c.if-not-one_pass.false
          (passes_next g.net_weights.now g.vertex_weights.now g.nets g.vertices g.sides g.net_count a.most_weight a.most a.split.now.words.now x l.split.words.now s.words.now
          l.split.part.now l.split.loads l.draws _ l.counter c.requires.0 c.loop-test.true l.invariant.2 e.leads),
      c.one_pass.auto.entries ∙ l.invariant.3,
      c.one_pass.auto.moves ∙ l.invariant.4,
    )

use native.Mathlib.Omega.{arith}
use mathlib.Core.Path.{◌∙◌}
use lib.ListN.{length}
use Rattle.partition.specs.Layout.{graph_in, place}
use Rattle.moves.specs.Kept.{site_kept}
use Rattle.initial.specs.Least.{best_next, best_of_all}
use Rattle.initial.proofs.initial.Goals as goal

pub try_once-cut-requires : goal.try_once-cut-requires
unfolding graph_in
try_once-cut-requires c = let a = c.args in let p = c.requires in let l = c.loop in let y = a.layout.now in (
  l.invariant.2 ∙ p.0,
  p.1,
  site_kept a.words.now l.words (place y.nets y.vertices y.sides y.net_count (length y.vertex_weights.now)) p.2 l.invariant.0.kept,
  p.3,
)

pub loop-preserved : goal.loop-preserved
loop-preserved c = let a = c.args in let l = c.loop in let y = a.layout.now in (
  best_next y.net_weights.now y.vertex_weights.now y.nets y.vertices y.sides y.net_count a.most_weight a.words.now a.draws.now 8 l.words _ l.part _ _ l.best c.try_once-cut.result c.keep_better.result l.draws _ l.counter c.requires.2 c.loop-test.true l.invariant.0 c.try_once-cut.ensures c.keep_better.ensures,
  omega (arith, l.invariant.1),
  omega (arith, l.invariant.2),
)

pub returns : goal.returns
returns c = let a = c.args in let l = c.loop in let y = a.layout.now in best_of_all y.net_weights.now y.vertex_weights.now y.nets y.vertices y.sides y.net_count a.most_weight a.words.now a.draws.now l.words l.part l.best l.draws l.counter (omega (arith, c.loop-test.false)) l.invariant.0

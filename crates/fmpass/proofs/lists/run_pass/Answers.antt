use Rattle.std.proofs.Common.{arith, ◌∙◌}
use Rattle.fmpass.specs.State.{lists_apart, run_in}
use Rattle.fmpass.specs.Turns.{runs_next, runs_over, runs_end}
use Rattle.fmpass.proofs.lists.run_pass.Goals as goal

pub returns-then-pass-clause-ran : goal.returns-then-pass-clause-ran
returns-then-pass-clause-ran c =
    let a = c.args in
    let g = a.layout.now in
    let l = c.loop in
    let M = lists_apart a.work.now a.keys.now a.stamps.now a.waiting.now in
    runs_over g.net_weights.now g.vertex_weights.now a.most_weight g.nets g.vertices g.sides g.net_count M (run_in a.pass.now a.draws.now)
    (lists_apart l.work l.keys l.stamps l.waiting) (run_in l.pass l.draws) l.counter c.if-pass.true l.invariant.3

pub loop-preserved : goal.loop-preserved
loop-preserved c =
    let a = c.args in
    let g = a.layout.now in
    let l = c.loop in
    let M = lists_apart a.work.now a.keys.now a.stamps.now a.waiting.now in
    let t = c.turn.ensures in (
      omega (arith, c.loop-test.true),
      l.invariant.1,
      (t.lent.0 ∙ l.invariant.2.0, t.lent.1 ∙ l.invariant.2.1, t.lent.2 ∙ l.invariant.2.2, t.lent.3 ∙ l.invariant.2.3),
      runs_next g.net_weights.now g.vertex_weights.now a.most_weight g.nets g.vertices g.sides g.net_count M (run_in a.pass.now a.draws.now)
          (lists_apart l.work l.keys l.stamps l.waiting) _ (run_in l.pass l.draws) _ l.counter (omega (arith, c.loop-test.true, l.invariant.1)) c.if-pass.false l.invariant.3 t.turned,
    )

pub returns-clause-ran : goal.returns-clause-ran
returns-clause-ran c =
    let a = c.args in
    let g = a.layout.now in
    let l = c.loop in
    let M = lists_apart a.work.now a.keys.now a.stamps.now a.waiting.now in
    runs_end g.net_weights.now g.vertex_weights.now a.most_weight g.nets g.vertices g.sides g.net_count M (run_in a.pass.now a.draws.now)
    (lists_apart l.work l.keys l.stamps l.waiting) (run_in l.pass l.draws) l.counter (omega (arith, l.invariant.1)) l.invariant.3

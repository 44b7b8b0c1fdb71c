use Rattle.std.proofs.Common.{rules, arith}
use Rattle.queue.specs.Enters.{one_more}
use Rattle.queue.proofs.lists.enter_all.Goals as goal

pub loop-v-preserved : goal.loop-v-preserved
loop-v-preserved c =
    let a = c.args in
    let l = c.loop-v in (
      omega (arith, c.loop-v-test.true),
      l.invariant.1,
      search rules,
      search rules,
      search rules,
      one_more a.graph.now.words.now a.graph.now.place a.graph.now.weights.now l.v _ _ _ l.invariant.5 c.enter.ensures,
    )

use Rattle.spec.specs.Calls.{flag_at}
use Rattle.network.specs.Views.{net_in}
use Rattle.passes.specs.Loops.{more_to_come, none_to_come, going_end}
use native.Mathlib.Omega.{arith}
use Rattle.passes.proofs.improve.Goals as goal

pub returns-then-made-eq0-clause-improves : goal.returns-then-made-eq0-clause-improves
returns-then-made-eq0-clause-improves c =
    let s = c.args.task.now.search in
    let N = net_in c.args.task.now.network in
    going_end N (flag_at s.flags.now) s.k s.limit
    (none_to_come N (flag_at s.flags.now) s.k s.limit c.loop.invariant.2 c.pass-made.ensures.passes (omega (arith, c.loop-test.true)) c.if-made-eq0.true)
    (omega arith)

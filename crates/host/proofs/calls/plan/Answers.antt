use borrow.Author.Rules.{rules}
use Rattle.std.proofs.Common.{◌≡◌, Err}
use Rattle.memory.specs.Lists.{net_lent}
use Rattle.host.specs.Greedy.{plan_large, plan_follows}
use Rattle.host.proofs.calls.plan.Goals as goal

pub returns-in_err-check_limits : goal.returns-in_err-check_limits
returns-in_err-check_limits c =
    let a = c.args in
    let (z, large) = c.in_err-check_limits.ensures.err in
    let e : c.from_residual.result ≡ Err c.in_err-check_limits.field-0.0 = search rules in
    rw (e, z) (plan_large (net_lent a.lists.now) a.tree.now a.ws.now large)

pub returns : goal.returns
returns c =
    let a = c.args in
    let q = c.plan.ensures in
    plan_follows (net_lent a.lists.now) a.tree.now a.ws.now c.record_of-network.ensures q.answer q.plan q.workspace

use borrow.Author.Rules.{rules}
use Rattle.std.proofs.Common.{◌≡◌, refl, Err, le-ltb}
use Rattle.memory.specs.Lists.{net_lent}
use Rattle.host.specs.Own.{large_network, short_answer}
use Rattle.host.specs.Bisection.{guarded, too_uneven, bisect_refused, bisect_done}
use Rattle.host.proofs.calls.bisect.Goals as goal

pub returns-then-imbalance-gt1000 : goal.returns-then-imbalance-gt1000
returns-then-imbalance-gt1000 c =
    let a = c.args in
    too_uneven (net_lent a.lists.now) a.imbalance a.cutoff a.draws.now a.tree.now a.ws.now a.answer.now c.if-imbalance-gt1000.true

pub returns-in_err-check_limits : goal.returns-in_err-check_limits
returns-in_err-check_limits c =
    let a = c.args in
    let (z, large) = c.in_err-check_limits.ensures.err in
    let e : c.from_residual.result ≡ Err c.in_err-check_limits.field-0.0 = search rules in
    rw (e, z) (large_network (guarded (net_lent a.lists.now) a.imbalance a.cutoff a.draws.now a.tree.now a.ws.now a.answer.now) (le-ltb 1000 a.imbalance c.if-imbalance-gt1000.false) large)

pub returns-in_err-check_room : goal.returns-in_err-check_room
returns-in_err-check_room c =
    let a = c.args in
    let (few, z) = c.in_err-check_room.ensures.err in
    let e : c.from_residual-in_err-check_room.result ≡ Err c.in_err-check_room.field-0.0 = search rules in
    rw e (short_answer (guarded (net_lent a.lists.now) a.imbalance a.cutoff a.draws.now a.tree.now a.ws.now a.answer.now) (le-ltb 1000 a.imbalance c.if-imbalance-gt1000.false) c.record_of-network.ensures few z)

pub returns-in_err-taken : goal.returns-in_err-taken
returns-in_err-taken c =
    let a = c.args in
    let e : c.from_residual-in_err-taken.result ≡ Err c.in_err-taken.field-0.0 = search rules in
    rw e (bisect_refused (net_lent a.lists.now) a.imbalance a.cutoff a.draws.now a.tree.now a.ws.now a.answer.now c.if-imbalance-gt1000.false c.in_ok-check_room.ensures.ok c.record_of-network.ensures c.in_err-taken.ensures.answer c.plan.ensures.plan c.plan.ensures.workspace refl)

pub returns : goal.returns
returns c =
    let a = c.args in
    bisect_done (net_lent a.lists.now) a.imbalance a.cutoff a.draws.now a.tree.now a.ws.now a.answer.now c.if-imbalance-gt1000.false c.in_ok-check_room.ensures.ok c.record_of-network.ensures c.in_ok-taken.ensures.answer c.plan.ensures.plan c.plan.ensures.workspace refl c.put.ensures

use borrow.Author.Rules.{rules}
use Rattle.std.proofs.Common.{◌≡◌, refl, Err, le-ltb}
use Rattle.memory.specs.Lists.{net_lent}
use Rattle.host.specs.Own.{large_network, short_answer}
use Rattle.host.specs.Reconfigure.{guarded, many_passes, improve_refused, improve_done}
use Rattle.host.proofs.calls.improve.Goals as goal

pub returns-then-ask-gt255 : goal.returns-then-ask-gt255
returns-then-ask-gt255 c =
    let a = c.args in
    many_passes (net_lent a.lists.now) a.ask.now.k a.ask.now.passes a.ask.now.limit a.ask.now.flags.now a.tree.now a.ws.now a.answer.now c.if-ask-gt255.true

pub returns-in_err-check_limits : goal.returns-in_err-check_limits
returns-in_err-check_limits c =
    let a = c.args in
    let (z, large) = c.in_err-check_limits.ensures.err in
    let e : c.from_residual.result ≡ Err c.in_err-check_limits.field-0.0 = search rules in
    rw (e, z) (large_network (guarded (net_lent a.lists.now) a.ask.now.k a.ask.now.passes a.ask.now.limit a.ask.now.flags.now a.tree.now a.ws.now a.answer.now) (le-ltb 255 a.ask.now.passes c.if-ask-gt255.false) large)

pub returns-in_err-check_room : goal.returns-in_err-check_room
returns-in_err-check_room c =
    let a = c.args in
    let (few, z) = c.in_err-check_room.ensures.err in
    let e : c.from_residual-in_err-check_room.result ≡ Err c.in_err-check_room.field-0.0 = search rules in
    rw e (short_answer (guarded (net_lent a.lists.now) a.ask.now.k a.ask.now.passes a.ask.now.limit a.ask.now.flags.now a.tree.now a.ws.now a.answer.now) (le-ltb 255 a.ask.now.passes c.if-ask-gt255.false) c.record_of-network.ensures few z)

pub returns-in_err-counts : goal.returns-in_err-counts
returns-in_err-counts c =
    let a = c.args in
    let e : c.from_residual-in_err-counts.result ≡ Err c.in_err-counts.field-0.0 = search rules in
    rw e (improve_refused (net_lent a.lists.now) a.ask.now.k a.ask.now.passes a.ask.now.limit a.ask.now.flags.now a.tree.now a.ws.now a.answer.now c.if-ask-gt255.false c.in_ok-check_room.ensures.ok c.record_of-network.ensures c.in_err-counts.ensures refl)

pub returns : goal.returns
returns c =
    let a = c.args in
    improve_done (net_lent a.lists.now) a.ask.now.k a.ask.now.passes a.ask.now.limit a.ask.now.flags.now a.tree.now a.ws.now a.answer.now c.if-ask-gt255.false c.in_ok-check_room.ensures.ok c.record_of-network.ensures c.in_ok-counts.ensures refl c.put_counts.ensures

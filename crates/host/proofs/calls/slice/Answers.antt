use borrow.Author.Rules.{rules}
use Rattle.std.proofs.Common.{◌≡◌, refl, Err}
use Rattle.memory.specs.Lists.{net_lent}
use Rattle.host.specs.Own.{large_network, short_answer}
use Rattle.host.specs.Slice.{guarded, slice_refused, slice_done}
use Rattle.host.proofs.calls.slice.Goals as goal

pub returns-in_err-check_limits : goal.returns-in_err-check_limits
returns-in_err-check_limits c =
    let a = c.args in
    let (z, large) = c.in_err-check_limits.ensures.err in
    let e : c.from_residual.result ≡ Err c.in_err-check_limits.field-0.0 = search rules in
    rw (e, z) (large_network (guarded (net_lent a.lists.now) a.improving a.target a.tree.now a.flags.now a.ws.now a.answer.now) refl large)

pub returns-in_err-check_room : goal.returns-in_err-check_room
returns-in_err-check_room c =
    let a = c.args in
    let (few, z) = c.in_err-check_room.ensures.err in
    let e : c.from_residual-in_err-check_room.result ≡ Err c.in_err-check_room.field-0.0 = search rules in
    rw e (short_answer (guarded (net_lent a.lists.now) a.improving a.target a.tree.now a.flags.now a.ws.now a.answer.now) refl c.record_of-network.ensures few z)

pub returns-in_err-made : goal.returns-in_err-made
returns-in_err-made c =
    let a = c.args in
    let e : c.from_residual-in_err-made.result ≡ Err c.in_err-made.field-0.0 = search rules in
    rw e (slice_refused (net_lent a.lists.now) a.improving a.target a.tree.now a.flags.now a.ws.now a.answer.now c.in_ok-check_room.ensures.ok c.record_of-network.ensures c.in_err-made.ensures.answer c.slice.ensures.tree c.slice.ensures.sliced c.slice.ensures.workspace refl)

pub returns : goal.returns
returns c =
    let a = c.args in
    slice_done (net_lent a.lists.now) a.improving a.target a.tree.now a.flags.now a.ws.now a.answer.now c.in_ok-check_room.ensures.ok c.record_of-network.ensures c.in_ok-made.ensures.answer c.slice.ensures.tree c.slice.ensures.sliced c.slice.ensures.workspace refl c.put_counts.ensures

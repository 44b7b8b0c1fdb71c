use borrow.Author.Rules.{rules}
use Rattle.std.proofs.Common.{◌≡◌, Err}
use Rattle.network.specs.Record.{net_of}
use Rattle.cost.specs.Checks.{network_cost}
use Rattle.cost.proofs.tree_cost.Goals as goal

pub returns-in_err-network-clause-cost : goal.returns-in_err-network-clause-cost
returns-in_err-network-clause-cost c =
    let a = c.args in
    let p = a.list.now in
    let r = c.in_err-network.field-0.0 in
    let e : c.from_residual.result ≡ Err r = search rules in
    rw e (network_cost (net_of a.network.now) a.flags.now a.kids.now a.ws.now p.sets.now p.sizes.now p.works.now a.steps.now r c.in_err-network.ensures.err)

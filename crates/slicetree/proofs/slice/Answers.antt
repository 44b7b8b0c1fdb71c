use borrow.Author.Rules.{rules}
use Rattle.std.proofs.Common.{◌≡◌, ◌∙◌, Err}
use Rattle.network.specs.Record.{net_of}
use Rattle.slicetree.specs.Answers.{slices_refused}
use Rattle.slicetree.proofs.slice.Goals as goal

pub returns-in_err-network-clause-answer : goal.returns-in_err-network-clause-answer
returns-in_err-network-clause-answer c =
    let a = c.args in
    let r = c.in_err-network.field-0.0 in
    let e : c.from_residual.result ≡ Err r = search rules in
    e ∙ (slices_refused (net_of a.network.now) a.improving a.target a.tree.now a.flags.now a.ws.now r c.in_err-network.ensures.err).answer

pub returns-in_err-network-clause-tree : goal.returns-in_err-network-clause-tree
returns-in_err-network-clause-tree c =
    let a = c.args in
    (slices_refused (net_of a.network.now) a.improving a.target a.tree.now a.flags.now a.ws.now c.in_err-network.field-0.0 c.in_err-network.ensures.err).tree

pub returns-in_err-network-clause-sliced : goal.returns-in_err-network-clause-sliced
returns-in_err-network-clause-sliced c =
    let a = c.args in
    (slices_refused (net_of a.network.now) a.improving a.target a.tree.now a.flags.now a.ws.now c.in_err-network.field-0.0 c.in_err-network.ensures.err).flags_are

pub returns-in_err-network-clause-workspace : goal.returns-in_err-network-clause-workspace
returns-in_err-network-clause-workspace c =
    let a = c.args in
    (slices_refused (net_of a.network.now) a.improving a.target a.tree.now a.flags.now a.ws.now c.in_err-network.field-0.0 c.in_err-network.ensures.err).workspace

use borrow.Author.Rules.{rules}
use Rattle.std.proofs.Common.{◌≡◌, ◌∙◌, sym, ap, subst, length, Bool, Result, Err, None}
use Rattle.spec.specs.Network.{refusal_of, leaf_count}
use Rattle.spec.specs.Calls.{plain_words, workspace_after}
use Rattle.spec.specs.declared.Refusal.{Refusal}
use Rattle.network.specs.Record.{net_of}
use Rattle.walk.specs.Entry.{network_quiet, quiet_words}
use Rattle.tree.specs.Answers.{same_err, same_accepted}
use Rattle.tree.proofs.same_plan.Goals as goal

pub returns-in_err-network-clause-answer : goal.returns-in_err-network-clause-answer
returns-in_err-network-clause-answer c =
    let r = c.in_err-network.field-0.0 in
    let e : c.from_residual.result ≡ Err r = search rules in
    e ∙ sym (same_err (net_of c.args.network.now) (length c.args.ws.now) c.args.tree.now c.args.other.now r c.in_err-network.ensures.err)

pub returns-in_err-network-clause-words : goal.returns-in_err-network-clause-words
returns-in_err-network-clause-words c =
    let r = c.in_err-network.field-0.0 in
    quiet_words plain_words _ r c.args.ws.now (same_err (net_of c.args.network.now) (length c.args.ws.now) c.args.tree.now c.args.other.now r c.in_err-network.ensures.err) (network_quiet (net_of c.args.network.now) r c.in_err-network.ensures.err)

pub returns-clause-answer : goal.returns-clause-answer
returns-clause-answer c =
    let N = net_of c.args.network.now in
    let same = c.in_ok-network.ensures.ok in
    let passed : refusal_of N ≡ None = subst (λ M. refusal_of M ≡ None) same c.in_ok-network.network.holds.passed in
    let call = same_accepted N (length c.args.ws.now) c.args.tree.now c.args.other.now c.leaf_count.result passed (sym (c.leaf_count.ensures ∙ ap leaf_count same)) in
    c.same_in.ensures.answer ∙ sym (call)

pub returns-clause-words : goal.returns-clause-words
returns-clause-words c =
    let N = net_of c.args.network.now in
    let same = c.in_ok-network.ensures.ok in
    let passed : refusal_of N ≡ None = subst (λ M. refusal_of M ≡ None) same c.in_ok-network.network.holds.passed in
    let call = same_accepted N (length c.args.ws.now) c.args.tree.now c.args.other.now c.leaf_count.result passed (sym (c.leaf_count.ensures ∙ ap leaf_count same)) in
    c.same_in.ensures.words ∙ sym (ap (λ (r : Result Bool Refusal). workspace_after plain_words r c.args.ws.now) call)

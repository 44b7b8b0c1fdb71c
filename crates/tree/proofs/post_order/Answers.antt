use borrow.Author.Rules.{rules}
use Rattle.std.proofs.Common.{◌≡◌, ◌∙◌, sym, ap, subst, length, List, ℕ, Result, Err, None}
use Rattle.spec.specs.Network.{refusal_of, leaf_count}
use Rattle.spec.specs.Calls.{plain_words, workspace_after, ordered_steps}
use Rattle.spec.specs.declared.Refusal.{Refusal}
use Rattle.network.specs.Record.{net_of}
use Rattle.walk.specs.Entry.{network_quiet, quiet_words, quiet_list}
use Rattle.tree.specs.Answers.{order_err, order_accepted, counted}
use Rattle.tree.proofs.post_order.Goals as goal

pub returns-in_err-network-clause-answer : goal.returns-in_err-network-clause-answer
returns-in_err-network-clause-answer c =
    let r = c.in_err-network.field-0.0 in
    let e : c.from_residual.result ≡ Err r = search rules in
    e ∙ sym (ap counted (order_err (net_of c.args.network.now) (length c.args.ws.now) (length c.args.out.now) c.args.tree.now r c.in_err-network.ensures.err))

pub returns-in_err-network-clause-words : goal.returns-in_err-network-clause-words
returns-in_err-network-clause-words c =
    let r = c.in_err-network.field-0.0 in
    quiet_words plain_words _ r c.args.ws.now (order_err (net_of c.args.network.now) (length c.args.ws.now) (length c.args.out.now) c.args.tree.now r c.in_err-network.ensures.err) (network_quiet (net_of c.args.network.now) r c.in_err-network.ensures.err)

pub returns-in_err-network-clause-steps : goal.returns-in_err-network-clause-steps
returns-in_err-network-clause-steps c =
    let r = c.in_err-network.field-0.0 in
    quiet_list _ r (λ (steps : List ℕ). steps) c.args.out.now (order_err (net_of c.args.network.now) (length c.args.ws.now) (length c.args.out.now) c.args.tree.now r c.in_err-network.ensures.err)

pub returns-clause-answer : goal.returns-clause-answer
returns-clause-answer c =
    let N = net_of c.args.network.now in
    let same = c.in_ok-network.ensures.ok in
    let passed : refusal_of N ≡ None = subst (λ M. refusal_of M ≡ None) same c.in_ok-network.network.holds.passed in
    let call = order_accepted N (length c.args.ws.now) (length c.args.out.now) c.args.tree.now c.leaf_count.result passed (sym (c.leaf_count.ensures ∙ ap leaf_count same)) in
    c.order_in.ensures.answer ∙ sym (ap counted (call))

pub returns-clause-words : goal.returns-clause-words
returns-clause-words c =
    let N = net_of c.args.network.now in
    let same = c.in_ok-network.ensures.ok in
    let passed : refusal_of N ≡ None = subst (λ M. refusal_of M ≡ None) same c.in_ok-network.network.holds.passed in
    let call = order_accepted N (length c.args.ws.now) (length c.args.out.now) c.args.tree.now c.leaf_count.result passed (sym (c.leaf_count.ensures ∙ ap leaf_count same)) in
    c.order_in.ensures.words ∙ sym (ap (λ (r : Result (List ℕ) Refusal). workspace_after plain_words r c.args.ws.now) call)

pub returns-clause-steps : goal.returns-clause-steps
returns-clause-steps c =
    let N = net_of c.args.network.now in
    let same = c.in_ok-network.ensures.ok in
    let passed : refusal_of N ≡ None = subst (λ M. refusal_of M ≡ None) same c.in_ok-network.network.holds.passed in
    let call = order_accepted N (length c.args.ws.now) (length c.args.out.now) c.args.tree.now c.leaf_count.result passed (sym (c.leaf_count.ensures ∙ ap leaf_count same)) in
    c.order_in.ensures.steps ∙ sym (ap (λ (r : Result (List ℕ) Refusal). ordered_steps r c.args.out.now) call)

use borrow.Author.Rules.{rules}
use Rattle.std.proofs.Common.{◌≡◌, ◌∙◌, sym, ap, subst, length, Result, Err, None, List}
use Rattle.spec.specs.Network.{Network, refusal_of}
use Rattle.spec.specs.Tree.{Pair, flat_of}
use Rattle.spec.specs.Calls.{plain_words, workspace_after, greedy_tree}
use Rattle.spec.specs.declared.Refusal.{Refusal}
use Rattle.network.specs.Record.{net_of}
use Rattle.walk.specs.Entry.{network_quiet, quiet_words, quiet_list}
use Rattle.greedy.specs.Answers.{done_of, Answers, call_refused, greedy_accepted}
use Rattle.greedy.proofs.plan.Goals as goal

pub returns-in_err-network-clause-answer : goal.returns-in_err-network-clause-answer
returns-in_err-network-clause-answer c =
    let r = c.in_err-network.field-0.0 in
    let e : c.from_residual.result ≡ Err r = search rules in
    e ∙ sym (ap done_of (call_refused (net_of c.args.network.now) (length c.args.ws.now) (length c.args.tree.now) r c.in_err-network.ensures.err))

pub returns-in_err-network-clause-plan : goal.returns-in_err-network-clause-plan
returns-in_err-network-clause-plan c =
    let r = c.in_err-network.field-0.0 in
    quiet_list _ r flat_of c.args.tree.now (call_refused (net_of c.args.network.now) (length c.args.ws.now) (length c.args.tree.now) r c.in_err-network.ensures.err)

pub returns-in_err-network-clause-workspace : goal.returns-in_err-network-clause-workspace
returns-in_err-network-clause-workspace c =
    let r = c.in_err-network.field-0.0 in
    quiet_words plain_words _ r c.args.ws.now (call_refused (net_of c.args.network.now) (length c.args.ws.now) (length c.args.tree.now) r c.in_err-network.ensures.err) (network_quiet (net_of c.args.network.now) r c.in_err-network.ensures.err)

pub returns-clause-answer : goal.returns-clause-answer
returns-clause-answer c =
    let N = net_of c.args.network.now in
    let same = c.in_ok-network.ensures.ok in
    let passed : refusal_of N ≡ None = subst (λ M. refusal_of M ≡ None) same c.in_ok-network.network.holds.passed in
    let q = subst (λ (M : Network). Answers M c.args.tree.now c.plan_in.new.tree c.args.ws.now c.plan_in.new.ws c.plan_in.result) same c.plan_in.ensures in
    q.answer ∙ sym (ap done_of (greedy_accepted N (length c.args.ws.now) (length c.args.tree.now) passed))

pub returns-clause-plan : goal.returns-clause-plan
returns-clause-plan c =
    let N = net_of c.args.network.now in
    let same = c.in_ok-network.ensures.ok in
    let passed : refusal_of N ≡ None = subst (λ M. refusal_of M ≡ None) same c.in_ok-network.network.holds.passed in
    let q = subst (λ (M : Network). Answers M c.args.tree.now c.plan_in.new.tree c.args.ws.now c.plan_in.new.ws c.plan_in.result) same c.plan_in.ensures in
    q.plan ∙ sym (ap (λ (r : Result (List Pair) Refusal). greedy_tree r c.args.tree.now) (greedy_accepted N (length c.args.ws.now) (length c.args.tree.now) passed))

pub returns-clause-workspace : goal.returns-clause-workspace
returns-clause-workspace c =
    let N = net_of c.args.network.now in
    let same = c.in_ok-network.ensures.ok in
    let passed : refusal_of N ≡ None = subst (λ M. refusal_of M ≡ None) same c.in_ok-network.network.holds.passed in
    let q = subst (λ (M : Network). Answers M c.args.tree.now c.plan_in.new.tree c.args.ws.now c.plan_in.new.ws c.plan_in.result) same c.plan_in.ensures in
    q.workspace ∙ sym (ap (λ (r : Result (List Pair) Refusal). workspace_after plain_words r c.args.ws.now) (greedy_accepted N (length c.args.ws.now) (length c.args.tree.now) passed))

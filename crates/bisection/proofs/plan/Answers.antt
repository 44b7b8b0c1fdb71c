use Rattle.std.proofs.Common.{rules, ◌≡◌, refl, sym, subst, ap, ◌∙◌, length}
use Rattle.std.specs.Prelude.{Result, Err, None}
use Rattle.spec.specs.declared.Refusal.{Refusal}
use Rattle.spec.specs.declared.Refusal.TheVariants.{TooLarge}
use Rattle.spec.specs.Bisection as spec
use Rattle.spec.specs.Network.{Network, refusal_of}
use Rattle.spec.specs.Calls.{bisection_words, bisection_call, workspace_after, bisected_tree}
use Rattle.walk.specs.Entry.{network_quiet}
use Rattle.network.specs.Record.{net_of}
use Rattle.bisection.specs.Answers.{taken_of, Answers, left_quiet, call_large, call_refused, call_accepted}
use Rattle.bisection.proofs.plan.Goals as goal

pub returns-then-imbalance-gt1000-clause-answer : goal.returns-then-imbalance-gt1000-clause-answer
returns-then-imbalance-gt1000-clause-answer c = let a = c.args in let g = a.network.now in
    (left_quiet (bisection_call (net_of g) a.imbalance a.cutoff a.draws.now (length a.ws.now) (length a.tree.now)) a.tree.now a.ws.now TooLarge (call_large (net_of g) a.imbalance a.cutoff a.draws.now (length a.ws.now) (length a.tree.now) c.if-imbalance-gt1000.true) refl).answer

pub returns-then-imbalance-gt1000-clause-plan : goal.returns-then-imbalance-gt1000-clause-plan
returns-then-imbalance-gt1000-clause-plan c = let a = c.args in let g = a.network.now in
    (left_quiet (bisection_call (net_of g) a.imbalance a.cutoff a.draws.now (length a.ws.now) (length a.tree.now)) a.tree.now a.ws.now TooLarge (call_large (net_of g) a.imbalance a.cutoff a.draws.now (length a.ws.now) (length a.tree.now) c.if-imbalance-gt1000.true) refl).plan

pub returns-then-imbalance-gt1000-clause-workspace : goal.returns-then-imbalance-gt1000-clause-workspace
returns-then-imbalance-gt1000-clause-workspace c = let a = c.args in let g = a.network.now in
    (left_quiet (bisection_call (net_of g) a.imbalance a.cutoff a.draws.now (length a.ws.now) (length a.tree.now)) a.tree.now a.ws.now TooLarge (call_large (net_of g) a.imbalance a.cutoff a.draws.now (length a.ws.now) (length a.tree.now) c.if-imbalance-gt1000.true) refl).workspace

pub returns-in_err-lists-clause-answer : goal.returns-in_err-lists-clause-answer
returns-in_err-lists-clause-answer c = let a = c.args in let g = a.network.now in
    let r = c.in_err-lists.field-0.0 in
    let e : c.from_residual.result ≡ Err r = search rules in
    e ∙ (left_quiet (bisection_call (net_of g) a.imbalance a.cutoff a.draws.now (length a.ws.now) (length a.tree.now)) a.tree.now a.ws.now r (call_refused (net_of g) a.imbalance a.cutoff a.draws.now (length a.ws.now) (length a.tree.now) c.if-imbalance-gt1000.false r c.in_err-lists.ensures.err) (network_quiet (net_of g) r c.in_err-lists.ensures.err)).answer

pub returns-in_err-lists-clause-plan : goal.returns-in_err-lists-clause-plan
returns-in_err-lists-clause-plan c = let a = c.args in let g = a.network.now in
    let r = c.in_err-lists.field-0.0 in
    (left_quiet (bisection_call (net_of g) a.imbalance a.cutoff a.draws.now (length a.ws.now) (length a.tree.now)) a.tree.now a.ws.now r (call_refused (net_of g) a.imbalance a.cutoff a.draws.now (length a.ws.now) (length a.tree.now) c.if-imbalance-gt1000.false r c.in_err-lists.ensures.err) (network_quiet (net_of g) r c.in_err-lists.ensures.err)).plan

pub returns-in_err-lists-clause-workspace : goal.returns-in_err-lists-clause-workspace
returns-in_err-lists-clause-workspace c = let a = c.args in let g = a.network.now in
    let r = c.in_err-lists.field-0.0 in
    (left_quiet (bisection_call (net_of g) a.imbalance a.cutoff a.draws.now (length a.ws.now) (length a.tree.now)) a.tree.now a.ws.now r (call_refused (net_of g) a.imbalance a.cutoff a.draws.now (length a.ws.now) (length a.tree.now) c.if-imbalance-gt1000.false r c.in_err-lists.ensures.err) (network_quiet (net_of g) r c.in_err-lists.ensures.err)).workspace

pub returns-clause-answer : goal.returns-clause-answer
returns-clause-answer c = let a = c.args in let g = a.network.now in
    let l = c.in_ok-lists.lists in
    let p : refusal_of (net_of g) ≡ None = subst (λ (N : Network). refusal_of N ≡ None) c.in_ok-lists.ensures.ok l.holds.passed in
    let q = subst (λ (N : Network). Answers N a.imbalance a.cutoff a.draws.now a.tree.now c.plan_accepted.new.tree a.ws.now c.plan_accepted.new.ws c.plan_accepted.result) c.in_ok-lists.ensures.ok c.plan_accepted.ensures in
    q.answer ∙ sym (ap taken_of (call_accepted (net_of g) a.imbalance a.cutoff a.draws.now (length a.ws.now) (length a.tree.now) c.if-imbalance-gt1000.false p))

pub returns-clause-plan : goal.returns-clause-plan
returns-clause-plan c = let a = c.args in let g = a.network.now in
    let l = c.in_ok-lists.lists in
    let p : refusal_of (net_of g) ≡ None = subst (λ (N : Network). refusal_of N ≡ None) c.in_ok-lists.ensures.ok l.holds.passed in
    let q = subst (λ (N : Network). Answers N a.imbalance a.cutoff a.draws.now a.tree.now c.plan_accepted.new.tree a.ws.now c.plan_accepted.new.ws c.plan_accepted.result) c.in_ok-lists.ensures.ok c.plan_accepted.ensures in
    q.plan ∙ sym (ap (λ (r : Result spec.Bisected Refusal). bisected_tree r a.tree.now) (call_accepted (net_of g) a.imbalance a.cutoff a.draws.now (length a.ws.now) (length a.tree.now) c.if-imbalance-gt1000.false p))

pub returns-clause-workspace : goal.returns-clause-workspace
returns-clause-workspace c = let a = c.args in let g = a.network.now in
    let l = c.in_ok-lists.lists in
    let p : refusal_of (net_of g) ≡ None = subst (λ (N : Network). refusal_of N ≡ None) c.in_ok-lists.ensures.ok l.holds.passed in
    let q = subst (λ (N : Network). Answers N a.imbalance a.cutoff a.draws.now a.tree.now c.plan_accepted.new.tree a.ws.now c.plan_accepted.new.ws c.plan_accepted.result) c.in_ok-lists.ensures.ok c.plan_accepted.ensures in
    q.workspace ∙ sym (ap (λ (r : Result spec.Bisected Refusal). workspace_after bisection_words r a.ws.now) (call_accepted (net_of g) a.imbalance a.cutoff a.draws.now (length a.ws.now) (length a.tree.now) c.if-imbalance-gt1000.false p))

use borrow.Author.Rules.{rules}
use Rattle.std.proofs.Common.{◌≡◌, ◌∙◌, refl, sym, ap, subst, Err, Ok, None}
use Rattle.spec.specs.Network.{refusal_of}
use Rattle.cost.specs.Answers.{TreeCost}
use Rattle.memory.specs.Lists.{net_lent}
use Rattle.memory.specs.Numbers.{or_short}
use Rattle.memory.specs.Promise.{told_network, told_short, told_priced, cost_network, cost_short, cost_refused, cost_done}
use Rattle.memory.proofs.price_lists.Goals as goal

pub returns-in_err-network-clause-answer : goal.returns-in_err-network-clause-answer
returns-in_err-network-clause-answer c =
    let a = c.args in
    let r = c.in_err-network.field-0.0 in
    let e : c.from_residual.result ≡ Err r = search rules in
    e ∙ told_network (net_lent a.lists.now) a.flags.now a.kids.now a.ws.now a.list.now.sets.now a.list.now.sizes.now a.list.now.works.now a.steps.now a.answer.now r c.in_err-network.ensures.err

pub returns-in_err-network-clause-cost : goal.returns-in_err-network-clause-cost
returns-in_err-network-clause-cost c =
    let a = c.args in
    let r = c.in_err-network.field-0.0 in
    let e : c.from_residual.result ≡ Err r = search rules in
    rw e (cost_network (net_lent a.lists.now) a.flags.now a.kids.now a.ws.now a.list.now.sets.now a.list.now.sizes.now a.list.now.works.now a.steps.now a.answer.now r c.in_err-network.ensures.err)

pub returns-then-answer-lt4-clause-answer : goal.returns-then-answer-lt4-clause-answer
returns-then-answer-lt4-clause-answer c =
    let a = c.args in
    let N = net_lent a.lists.now in
    let passed : refusal_of N ≡ None = subst (λ M. refusal_of M ≡ None) c.in_ok-network.ensures.ok c.in_ok-network.network.holds.passed in
    told_short N a.flags.now a.kids.now a.ws.now a.list.now.sets.now a.list.now.sizes.now a.list.now.works.now a.steps.now a.answer.now passed c.if-answer-lt4.true

pub returns-then-answer-lt4-clause-cost : goal.returns-then-answer-lt4-clause-cost
returns-then-answer-lt4-clause-cost c =
    let a = c.args in
    let N = net_lent a.lists.now in
    let passed : refusal_of N ≡ None = subst (λ M. refusal_of M ≡ None) c.in_ok-network.ensures.ok c.in_ok-network.network.holds.passed in
    cost_short N a.flags.now a.kids.now a.ws.now a.list.now.sets.now a.list.now.sizes.now a.list.now.works.now a.steps.now a.answer.now c.if-answer-lt4.true (sym (ap or_short passed))

pub returns-in_err-prices-clause-answer : goal.returns-in_err-prices-clause-answer
returns-in_err-prices-clause-answer c =
    let a = c.args in
    let N = net_lent a.lists.now in
    let r = c.in_err-prices.field-0.0 in
    let e : c.from_residual-in_err-prices.result ≡ Err r = search rules in
    let t : TreeCost N a.flags.now a.kids.now a.ws.now a.list.now.sets.now a.list.now.sizes.now a.list.now.works.now a.steps.now c.price_accepted.new.ws c.price_accepted.new.list.sets.now c.price_accepted.new.list.sizes.now c.price_accepted.new.list.works.now c.price_accepted.new.steps (Err r) = rw c.in_ok-network.ensures.ok at c.in_err-prices.ensures.cost in
    e ∙ told_priced N a.flags.now a.kids.now a.ws.now a.list.now.sets.now a.list.now.sizes.now a.list.now.works.now a.steps.now a.answer.now c.if-answer-lt4.false t

pub returns-in_err-prices-clause-cost : goal.returns-in_err-prices-clause-cost
returns-in_err-prices-clause-cost c =
    let a = c.args in
    let N = net_lent a.lists.now in
    let r = c.in_err-prices.field-0.0 in
    let e : c.from_residual-in_err-prices.result ≡ Err r = search rules in
    let t : TreeCost N a.flags.now a.kids.now a.ws.now a.list.now.sets.now a.list.now.sizes.now a.list.now.works.now a.steps.now c.price_accepted.new.ws c.price_accepted.new.list.sets.now c.price_accepted.new.list.sizes.now c.price_accepted.new.list.works.now c.price_accepted.new.steps (Err r) = rw c.in_ok-network.ensures.ok at c.in_err-prices.ensures.cost in
    rw e (cost_refused N a.flags.now a.kids.now a.ws.now a.list.now.sets.now a.list.now.sizes.now a.list.now.works.now a.steps.now a.answer.now c.if-answer-lt4.false refl t)

pub returns-clause-answer : goal.returns-clause-answer
returns-clause-answer c =
    let a = c.args in
    let N = net_lent a.lists.now in
    let t : TreeCost N a.flags.now a.kids.now a.ws.now a.list.now.sets.now a.list.now.sizes.now a.list.now.works.now a.steps.now c.price_accepted.new.ws c.price_accepted.new.list.sets.now c.price_accepted.new.list.sizes.now c.price_accepted.new.list.works.now c.price_accepted.new.steps (Ok c.in_ok-prices.prices) = rw c.in_ok-network.ensures.ok at c.in_ok-prices.ensures.cost in
    told_priced N a.flags.now a.kids.now a.ws.now a.list.now.sets.now a.list.now.sizes.now a.list.now.works.now a.steps.now a.answer.now c.if-answer-lt4.false t

pub returns-clause-cost : goal.returns-clause-cost
returns-clause-cost c =
    let a = c.args in
    let N = net_lent a.lists.now in
    let t : TreeCost N a.flags.now a.kids.now a.ws.now a.list.now.sets.now a.list.now.sizes.now a.list.now.works.now a.steps.now c.price_accepted.new.ws c.price_accepted.new.list.sets.now c.price_accepted.new.list.sizes.now c.price_accepted.new.list.works.now c.price_accepted.new.steps (Ok c.in_ok-prices.prices) = rw c.in_ok-network.ensures.ok at c.in_ok-prices.ensures.cost in
    cost_done N a.flags.now a.kids.now a.ws.now a.list.now.sets.now a.list.now.sizes.now a.list.now.works.now a.steps.now a.answer.now c.if-answer-lt4.false refl t c.put_answer.ensures

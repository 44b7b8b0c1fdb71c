use borrow.Author.Rules.{rules}
use Rattle.std.proofs.Common.{◌≡◌, ◌*◌, ◌≤◌, ◌∙◌, refl, ap, subst, length, replicate, Err, Ok, None, arith}
use Rattle.spec.specs.Memory.{over}
use Rattle.spec.specs.Network.{refusal_of, leaf_count}
use Rattle.spec.specs.Calls.{step_places}
use Rattle.spec.specs.declared.Refusal.TheVariants.{ShortBuffer}
use Rattle.network.specs.Record.{net_of}
use Rattle.network.specs.Views.{in_facts, in_leaves}
use Rattle.cost.specs.Answers.{TreeCost}
use Rattle.cost.specs.Checks.{call_refused}
use Rattle.steps.specs.Records.{steps_of}
use Rattle.steps.specs.Listed.{short_call, same_call}
use Rattle.steps.specs.Promise.{records_untouched, records_refused, records_priced}
use Rattle.steps.proofs.step_records.Goals as goal

pub returns-in_err-network-clause-records : goal.returns-in_err-network-clause-records
returns-in_err-network-clause-records c =
    let a = c.args in
    let N = net_of a.network.now in
    let p = a.list.now in
    let r = c.in_err-network.field-0.0 in
    let e : c.from_residual.result ≡ Err r = search rules in
    let (is, quiet) = call_refused N a.flags.now a.kids.now (length a.ws.now) (length p.sets.now) (length p.sizes.now) (length p.works.now) (length a.steps.now * 5) r c.in_err-network.ensures.err in
    rw e (records_untouched N a.flags.now a.kids.now a.ws.now p.sets.now p.sizes.now p.works.now a.steps.now r is quiet)

pub returns-then-steps-inner-clause-records : goal.returns-then-steps-inner-clause-records
returns-then-steps-inner-clause-records c =
    let a = c.args in
    let N = net_of a.network.now in
    let p = a.list.now in
    let same = c.in_ok-network.ensures.ok in
    let passed : refusal_of N ≡ None = subst (λ M. refusal_of M ≡ None) same c.in_ok-network.network.holds.passed in
    let inner : c.saturating_sub-inner.result ≡ step_places N = omega (arith, c.saturating_sub-inner.ensures, c.leaf_count.ensures, ap leaf_count same) in
    records_untouched N a.flags.now a.kids.now a.ws.now p.sets.now p.sizes.now p.works.now a.steps.now ShortBuffer
    (short_call N (length a.ws.now) (length p.sets.now) (length p.sizes.now) (length p.works.now) a.flags.now a.kids.now (length a.steps.now * 5) passed (omega (arith, inner, c.if-steps-inner.true))) refl

pub returns-in_err-prices-clause-records : goal.returns-in_err-prices-clause-records
returns-in_err-prices-clause-records c =
    let a = c.args in
    let N = net_of a.network.now in
    let p = a.list.now in
    let same = c.in_ok-network.ensures.ok in
    let n = c.in_ok-network.network in
    let inner : c.saturating_sub-inner.result ≡ step_places N = omega (arith, c.saturating_sub-inner.ensures, c.leaf_count.ensures, ap leaf_count same) in
    let few : step_places N ≤ 127 = omega (arith, ap leaf_count same, in_leaves n, (in_facts n n.holds).few_leaves) in
    let r = c.in_err-prices.field-0.0 in
    let e : c.from_residual-in_err-prices.result ≡ Err r = search rules in
    let t : TreeCost N a.flags.now a.kids.now a.ws.now p.sets.now p.sizes.now p.works.now (replicate 635 0) c.price_accepted.new.ws c.price_accepted.new.list.sets.now c.price_accepted.new.list.sizes.now c.price_accepted.new.list.works.now c.price_accepted.new.steps (Err r) = rw same at c.in_err-prices.ensures.cost in
    rw e
    (records_refused N a.flags.now a.kids.now a.ws.now p.sets.now p.sizes.now p.works.now a.steps.now (replicate 635 0)
    (same_call N (length a.ws.now) (length p.sets.now) (length p.sizes.now) (length p.works.now) a.flags.now a.kids.now 635 (length a.steps.now * 5) (λ _. omega (arith, few)) (λ _. omega (arith, inner, c.if-steps-inner.false)))
    t)

pub returns-clause-records : goal.returns-clause-records
returns-clause-records c =
    let a = c.args in
    let N = net_of a.network.now in
    let p = a.list.now in
    let same = c.in_ok-network.ensures.ok in
    let n = c.in_ok-network.network in
    let inner : c.saturating_sub-inner.result ≡ step_places N = omega (arith, c.saturating_sub-inner.ensures, c.leaf_count.ensures, ap leaf_count same) in
    let few : step_places N ≤ 127 = omega (arith, ap leaf_count same, in_leaves n, (in_facts n n.holds).few_leaves) in
    let t : TreeCost N a.flags.now a.kids.now a.ws.now p.sets.now p.sizes.now p.works.now (replicate 635 0) c.price_accepted.new.ws c.price_accepted.new.list.sets.now c.price_accepted.new.list.sizes.now c.price_accepted.new.list.works.now c.price_accepted.new.steps (Ok c.in_ok-prices.prices) = rw same at c.in_ok-prices.ensures.cost in
    records_priced N a.flags.now a.kids.now a.ws.now p.sets.now p.sizes.now p.works.now a.steps.now (replicate 635 0)
    (same_call N (length a.ws.now) (length p.sets.now) (length p.sizes.now) (length p.works.now) a.flags.now a.kids.now 635 (length a.steps.now * 5) (λ _. omega (arith, few)) (λ _. omega (arith, inner, c.if-steps-inner.false)))
    t (c.put_steps.ensures ∙ ap (λ k. over a.steps.now (steps_of c.price_accepted.new.steps k)) inner)

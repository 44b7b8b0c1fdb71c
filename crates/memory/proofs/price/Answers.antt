use Rattle.std.proofs.Common.{◌∙◌, ap, length, replicate}
use Rattle.spec.specs.Host.{lent_network, memory_call}
use Rattle.cost.specs.Answers.{told, room}
use Rattle.memory.specs.Promise.{cost_same}
use Rattle.memory.specs.Copies.{clear, padded_network}
use Rattle.memory.proofs.price.Goals as goal

pub returns-clause-answer : goal.returns-clause-answer
returns-clause-answer c =
    let a = c.args in
    let n = a.lists.now in
    let same = ap (λ l. lent_network n.weights.now n.leg_counts.now l n.outputs.now) c.copy.ensures
    ∙ padded_network n.weights.now n.leg_counts.now n.legs.now n.outputs.now (replicate 4096 0) (clear 4096) (c.short_of_legs.ensures.0 c.if-not-short_of_legs.false) in
    c.price_lists-2.ensures.answer
    ∙ ap (λ N. told (memory_call (length a.answer.now) N (length a.ws.now) (room (length a.list.now.sets.now) (length a.list.now.sizes.now) (length a.list.now.works.now) (length a.steps.now)) a.flags.now a.kids.now)) same

pub returns-clause-cost : goal.returns-clause-cost
returns-clause-cost c =
    let n = c.args.lists.now in
    cost_same
    (ap (λ l. lent_network n.weights.now n.leg_counts.now l n.outputs.now) c.copy.ensures
    ∙ padded_network n.weights.now n.leg_counts.now n.legs.now n.outputs.now (replicate 4096 0) (clear 4096) (c.short_of_legs.ensures.0 c.if-not-short_of_legs.false))
    c.price_lists-2.ensures.cost

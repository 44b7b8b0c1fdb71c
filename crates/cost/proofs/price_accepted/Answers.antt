use Rattle.std.proofs.Common.{◌≡◌, ◌≤◌, ◌∙◌, refl, sym, ap, subst, length, take, arith}
use Rattle.std.proofs.lemmas.List.{length-take-le}
use Rattle.spec.specs.Memory.{cleared}
use Rattle.spec.specs.Calls.{plain_words}
use Rattle.spec.specs.declared.Refusal.TheVariants.{ShortBuffer}
use Rattle.walk.specs.Entry.{lent_cleared}
use Rattle.network.specs.Views.{net_in}
use Rattle.cost.specs.Checks.{LongEnough, call_few, call_rest, long_enough, part_words, untouched_cost, rest_cost}
use Rattle.cost.proofs.price_accepted.Goals as goal

pub returns-then-too_few-clause-cost : goal.returns-then-too_few-clause-cost
returns-then-too_few-clause-cost c =
    let a = c.args in
    let N = net_in a.network.now in
    let p = a.list.now in
    untouched_cost N a.flags.now a.kids.now a.ws.now p.sets.now p.sizes.now p.works.now a.steps.now ShortBuffer
    (call_few N a.flags.now a.kids.now (length a.ws.now) (length p.sets.now) (length p.sizes.now) (length p.works.now) (length a.steps.now)
    c.leaf_count.result (sym c.leaf_count.ensures) a.network.now.holds.passed (sym c.too_few.ensures ∙ c.if-too_few.true)) refl

pub slice_bounds-priced_in-end : goal.slice_bounds-priced_in-end
slice_bounds-priced_in-end c =
    let l = long_enough c.leaf_count.result (length c.args.ws.now) (length c.args.list.now.sets.now) (length c.args.list.now.sizes.now) (length c.args.list.now.works.now) (length c.args.steps.now) (sym c.too_few.ensures ∙ c.if-too_few.false) in
    omega (arith, l.for_words, c.stated-words.ensures)

pub slice_bounds-priced_in-end-2 : goal.slice_bounds-priced_in-end-2
slice_bounds-priced_in-end-2 c =
    let l = long_enough c.leaf_count.result (length c.args.ws.now) (length c.args.list.now.sets.now) (length c.args.list.now.sizes.now) (length c.args.list.now.works.now) (length c.args.steps.now) (sym c.too_few.ensures ∙ c.if-too_few.false) in
    sym (length-take-le c.stated-words.result c.args.ws.now (omega (arith, l.for_words, c.stated-words.ensures)))

pub priced_in-answer-requires : goal.priced_in-answer-requires
priced_in-answer-requires c =
    let a = c.args in
    let p = a.list.now in
    let w = c.stated-words.result in
    let l = long_enough c.leaf_count.result (length a.ws.now) (length p.sets.now) (length p.sizes.now) (length p.works.now) (length a.steps.now) (sym c.too_few.ensures ∙ c.if-too_few.false) in
    let fit : w ≤ length a.ws.now = omega (arith, l.for_words, c.stated-words.ensures) in
    subst (λ k. LongEnough k (length (take w a.ws.now)) (length p.sets.now) (length p.sizes.now) (length p.works.now) (length a.steps.now)) c.leaf_count.ensures
    (part_words (omega (arith, c.stated-words.ensures, length-take-le w a.ws.now fit)) l)

pub returns-clause-cost : goal.returns-clause-cost
returns-clause-cost c =
    let a = c.args in
    let N = net_in a.network.now in
    let p = a.list.now in
    let few = sym c.too_few.ensures ∙ c.if-too_few.false in
    let l = long_enough c.leaf_count.result (length a.ws.now) (length p.sets.now) (length p.sizes.now) (length p.works.now) (length a.steps.now) few in
    let w = c.stated-words.result in
    let fit : w ≤ length a.ws.now = omega (arith, l.for_words, c.stated-words.ensures) in
    let y = c.priced_in-answer.new.ws in
    let ly : length y ≡ length (take w a.ws.now) = c.priced_in-answer.auto.ws in
    let z : c.clear.new.words ≡ cleared a.ws.now plain_words = c.clear.ensures ∙ lent_cleared a.ws.now y w w fit ly refl ∙ ap (cleared a.ws.now) c.stated-words.ensures in
    rest_cost N a.flags.now a.kids.now a.ws.now p.sets.now p.sizes.now p.works.now a.steps.now c.clear.new.words _ _ _ _ c.priced_in-answer.result
    (call_rest N a.flags.now a.kids.now (length a.ws.now) (length p.sets.now) (length p.sizes.now) (length p.works.now) (length a.steps.now)
    c.leaf_count.result (sym c.leaf_count.ensures) a.network.now.holds.passed few) z c.priced_in-answer.ensures.answered

use borrow.Author.Rules.{rules}
use Rattle.std.proofs.Common.{◌≡◌, ◌∙◌, sym, ap, refl, length, take, arith, List, ℕ, Result}
use Rattle.spec.specs.Memory.{cleared}
use Rattle.spec.specs.Calls.{plain_words, workspace_after, ordered_steps}
use Rattle.spec.specs.declared.Refusal.{Refusal}
use Rattle.spec.specs.declared.Refusal.TheVariants.{ShortBuffer}
use Rattle.walk.specs.Entry.{quiet_words, quiet_list, lent_cleared}
use Rattle.tree.specs.Answers.{counted, order_short_err, order_few_err, order_ordered, ordered_words}
use Rattle.tree.proofs.order_in.Goals as goal

pub returns-then-ws-words-clause-answer : goal.returns-then-ws-words-clause-answer
returns-then-ws-words-clause-answer c =
    let a = c.args in
    sym (ap counted (order_short_err a.n (length a.ws.now) (length a.out.now) a.tree.now (omega (arith, c.if-ws-words.true, c.stated-words.ensures))))

pub returns-then-ws-words-clause-words : goal.returns-then-ws-words-clause-words
returns-then-ws-words-clause-words c =
    let a = c.args in
    quiet_words plain_words _ ShortBuffer a.ws.now (order_short_err a.n (length a.ws.now) (length a.out.now) a.tree.now (omega (arith, c.if-ws-words.true, c.stated-words.ensures))) refl

pub returns-then-ws-words-clause-steps : goal.returns-then-ws-words-clause-steps
returns-then-ws-words-clause-steps c =
    let a = c.args in
    quiet_list _ ShortBuffer (λ (steps : List ℕ). steps) a.out.now (order_short_err a.n (length a.ws.now) (length a.out.now) a.tree.now (omega (arith, c.if-ws-words.true, c.stated-words.ensures)))

pub returns-then-out-saturating_sub-clause-answer : goal.returns-then-out-saturating_sub-clause-answer
returns-then-out-saturating_sub-clause-answer c =
    let a = c.args in
    sym (ap counted (order_few_err a.n (length a.ws.now) (length a.out.now) a.tree.now (omega (arith, c.if-ws-words.false, c.stated-words.ensures)) (omega (arith, c.if-out-saturating_sub.true, c.saturating_sub.ensures))))

pub returns-then-out-saturating_sub-clause-words : goal.returns-then-out-saturating_sub-clause-words
returns-then-out-saturating_sub-clause-words c =
    let a = c.args in
    quiet_words plain_words _ ShortBuffer a.ws.now (order_few_err a.n (length a.ws.now) (length a.out.now) a.tree.now (omega (arith, c.if-ws-words.false, c.stated-words.ensures)) (omega (arith, c.if-out-saturating_sub.true, c.saturating_sub.ensures))) refl

pub returns-then-out-saturating_sub-clause-steps : goal.returns-then-out-saturating_sub-clause-steps
returns-then-out-saturating_sub-clause-steps c =
    let a = c.args in
    quiet_list _ ShortBuffer (λ (steps : List ℕ). steps) a.out.now (order_few_err a.n (length a.ws.now) (length a.out.now) a.tree.now (omega (arith, c.if-ws-words.false, c.stated-words.ensures)) (omega (arith, c.if-out-saturating_sub.true, c.saturating_sub.ensures)))

pub returns-clause-answer : goal.returns-clause-answer
returns-clause-answer c =
    let a = c.args in
    let e = order_ordered a.n (length a.ws.now) (length a.out.now) a.tree.now (omega (arith, c.stated-words.ensures, c.if-ws-words.false)) (omega (arith, c.saturating_sub.ensures, c.if-out-saturating_sub.false)) in
    c.ordered-answer.ensures.answer ∙ sym (ap counted e)

pub returns-clause-words : goal.returns-clause-words
returns-clause-words c =
    let a = c.args in
    let w = c.stated-words.result in
    let y = c.ordered-answer.new.ws in
    let ly : length y ≡ length (take w a.ws.now) = search rules in
    let z = c.clear.ensures ∙ lent_cleared a.ws.now y w w c.if-ws-words.false ly refl ∙ ap (cleared a.ws.now) c.stated-words.ensures in
    let e = order_ordered a.n (length a.ws.now) (length a.out.now) a.tree.now (omega (arith, c.stated-words.ensures, c.if-ws-words.false)) (omega (arith, c.saturating_sub.ensures, c.if-out-saturating_sub.false)) in
    z ∙ sym (ap (λ (r : Result (List ℕ) Refusal). workspace_after plain_words r a.ws.now) e ∙ ordered_words a.n a.tree.now a.ws.now)

pub returns-clause-steps : goal.returns-clause-steps
returns-clause-steps c =
    let a = c.args in
    let e = order_ordered a.n (length a.ws.now) (length a.out.now) a.tree.now (omega (arith, c.stated-words.ensures, c.if-ws-words.false)) (omega (arith, c.saturating_sub.ensures, c.if-out-saturating_sub.false)) in
    c.ordered-answer.ensures.steps ∙ sym (ap (λ (r : Result (List ℕ) Refusal). ordered_steps r a.out.now) e)

use borrow.Author.Rules.{rules}
use Rattle.std.proofs.Common.{◌≡◌, ◌∙◌, sym, ap, refl, length, take, arith, Bool, Result}
use Rattle.spec.specs.Memory.{cleared}
use Rattle.spec.specs.Calls.{plain_words, workspace_after}
use Rattle.spec.specs.declared.Refusal.{Refusal}
use Rattle.spec.specs.declared.Refusal.TheVariants.{ShortBuffer}
use Rattle.walk.specs.Entry.{quiet_words, lent_cleared}
use Rattle.tree.specs.Answers.{same_short_err, same_compared, compared_words}
use Rattle.tree.proofs.same_in.Goals as goal

pub returns-then-ws-words-clause-answer : goal.returns-then-ws-words-clause-answer
returns-then-ws-words-clause-answer c = let a = c.args in sym (same_short_err a.n a.tree.now a.other.now (length a.ws.now) (omega (arith, c.if-ws-words.true, c.stated-words.ensures)))

pub returns-then-ws-words-clause-words : goal.returns-then-ws-words-clause-words
returns-then-ws-words-clause-words c =
    let a = c.args in
    quiet_words plain_words _ ShortBuffer a.ws.now (same_short_err a.n a.tree.now a.other.now (length a.ws.now) (omega (arith, c.if-ws-words.true, c.stated-words.ensures))) refl

pub returns-clause-answer : goal.returns-clause-answer
returns-clause-answer c =
    let a = c.args in
    let e = same_compared a.n a.tree.now a.other.now (length a.ws.now) (omega (arith, c.stated-words.ensures, c.if-ws-words.false)) in
    c.compare-answer.ensures ∙ sym e

pub returns-clause-words : goal.returns-clause-words
returns-clause-words c =
    let a = c.args in
    let w = c.stated-words.result in
    let y = c.compare-answer.new.ws in
    let ly : length y ≡ length (take w a.ws.now) = search rules in
    let z = c.clear.ensures ∙ lent_cleared a.ws.now y w w c.if-ws-words.false ly refl ∙ ap (cleared a.ws.now) c.stated-words.ensures in
    let e = same_compared a.n a.tree.now a.other.now (length a.ws.now) (omega (arith, c.stated-words.ensures, c.if-ws-words.false)) in
    z ∙ sym (ap (λ (r : Result Bool Refusal). workspace_after plain_words r a.ws.now) e ∙ compared_words a.n a.tree.now a.other.now a.ws.now)

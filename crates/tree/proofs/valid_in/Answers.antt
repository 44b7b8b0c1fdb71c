use borrow.Author.Rules.{rules}
use Rattle.std.proofs.Common.{◌≡◌, ◌≤◌, ◌∙◌, sym, ap, refl, length, take, arith, true, false, Err}
use mathlib.Core.Bool.{not}
use Rattle.spec.specs.Memory.{cleared}
use Rattle.spec.specs.Calls.{plain_words, wrong_tree}
use Rattle.spec.specs.declared.Refusal.TheVariants.{ShortBuffer, InvalidTree}
use Rattle.walk.specs.Entry.{quiet_words, done_words, refused_words, lent_cleared}
use Rattle.tree.specs.Answers.{valid_in, valid_short_err, valid_done, valid_wrong}
use Rattle.tree.proofs.valid_in.Goals as goal

pub returns-then-ws-words-clause-answer : goal.returns-then-ws-words-clause-answer
returns-then-ws-words-clause-answer c = let a = c.args in sym (valid_short_err a.n (length a.ws.now) a.tree.now (omega (arith, c.if-ws-words.true, c.stated-words.ensures)))

pub returns-then-ws-words-clause-words : goal.returns-then-ws-words-clause-words
returns-then-ws-words-clause-words c =
    let a = c.args in
    quiet_words plain_words _ ShortBuffer a.ws.now (valid_short_err a.n (length a.ws.now) a.tree.now (omega (arith, c.if-ws-words.true, c.stated-words.ensures))) refl

pub returns-in_err-checked-clause-answer : goal.returns-in_err-checked-clause-answer
returns-in_err-checked-clause-answer c =
    let a = c.args in
    let long : plain_words ≤ length a.ws.now = omega (arith, c.stated-words.ensures, c.if-ws-words.false) in
    let e : c.from_residual.result ≡ Err c.in_err-checked.field-0.0 = search rules in
    let err = c.in_err-checked.ensures.err in
    e ∙ ap Err err.0 ∙ sym (valid_wrong a.n (length a.ws.now) a.tree.now long false (sym (ap not err.1)) refl)

pub returns-in_err-checked-clause-words : goal.returns-in_err-checked-clause-words
returns-in_err-checked-clause-words c =
    let a = c.args in
    let w = c.stated-words.result in
    let y = c.check-checked.new.words in
    let ly : length y ≡ length (take w a.ws.now) = search rules in
    let z = c.clear.ensures ∙ lent_cleared a.ws.now y w w c.if-ws-words.false ly refl ∙ ap (cleared a.ws.now) c.stated-words.ensures in
    let long : plain_words ≤ length a.ws.now = omega (arith, c.stated-words.ensures, c.if-ws-words.false) in
    let q = valid_wrong a.n (length a.ws.now) a.tree.now long false (sym (ap not c.in_err-checked.ensures.err.1)) refl in
    refused_words plain_words a.ws.now _ z (valid_in a.n (length a.ws.now) a.tree.now) InvalidTree refl q

pub returns-clause-answer : goal.returns-clause-answer
returns-clause-answer c =
    let a = c.args in
    let long : plain_words ≤ length a.ws.now = omega (arith, c.stated-words.ensures, c.if-ws-words.false) in
    let ok = c.in_ok-checked.ensures.ok in
    let right : wrong_tree a.n a.tree.now ≡ false = (λ j. wrong_tree (sym ok.1 j) (sym ok.0 j)) ∙ c.in_ok-checked.field-0.valid in
    sym (valid_done a.n (length a.ws.now) a.tree.now long true (sym (ap not right)) refl)

pub returns-clause-words : goal.returns-clause-words
returns-clause-words c =
    let a = c.args in
    let w = c.stated-words.result in
    let y = c.check-checked.new.words in
    let ly : length y ≡ length (take w a.ws.now) = search rules in
    let z = c.clear.ensures ∙ lent_cleared a.ws.now y w w c.if-ws-words.false ly refl ∙ ap (cleared a.ws.now) c.stated-words.ensures in
    let long : plain_words ≤ length a.ws.now = omega (arith, c.stated-words.ensures, c.if-ws-words.false) in
    let ok = c.in_ok-checked.ensures.ok in
    let right : wrong_tree a.n a.tree.now ≡ false = (λ j. wrong_tree (sym ok.1 j) (sym ok.0 j)) ∙ c.in_ok-checked.field-0.valid in
    let q = valid_done a.n (length a.ws.now) a.tree.now long true (sym (ap not right)) refl in
    done_words plain_words a.ws.now _ z (valid_in a.n (length a.ws.now) a.tree.now) tt q

use borrow.Author.Rules.{rules}
use Rattle.std.proofs.Common.{◌≡◌, ◌∙◌, sym, ap, refl, false, Err, Ok}
use mathlib.Core.Bool.{not}
use Rattle.spec.specs.Calls.{wrong_tree}
use Rattle.tree.specs.Answers.{compared_first, compared_second, compared-done}
use Rattle.tree.proofs.compare.Goals as goal

pub returns-in_err-check : goal.returns-in_err-check
returns-in_err-check c =
    let a = c.args in
    let e : c.from_residual.result ≡ Err c.in_err-check.field-0.0 = search rules in
    let err = c.in_err-check.ensures.err in
    e ∙ ap Err err.0 ∙ sym (compared_first a.n a.tree.now a.other.now false (sym (ap not err.1)) refl)

pub returns-in_err-check-2 : goal.returns-in_err-check-2
returns-in_err-check-2 c =
    let a = c.args in
    let ok = c.in_ok-check.ensures.ok in
    let right : wrong_tree a.n a.tree.now ≡ false = (λ j. wrong_tree (sym ok.1 j) (sym ok.0 j)) ∙ c.in_ok-check.field-0.valid in
    let e : c.from_residual-in_err-check-2.result ≡ Err c.in_err-check-2.field-0.0 = search rules in
    let err = c.in_err-check-2.ensures.err in
    e ∙ ap Err err.0 ∙ sym (compared_second a.n a.tree.now a.other.now right false (sym (ap not err.1)) refl)

pub returns : goal.returns
returns c =
    let a = c.args in
    let ok = c.in_ok-check.ensures.ok in
    let ok2 = c.in_ok-check-2.ensures.ok in
    let right : wrong_tree a.n a.tree.now ≡ false = (λ j. wrong_tree (sym ok.1 j) (sym ok.0 j)) ∙ c.in_ok-check.field-0.valid in
    let other : wrong_tree a.n a.other.now ≡ false = (λ j. wrong_tree (sym ok2.1 j) (sym ok2.0 j)) ∙ c.in_ok-check-2.field-0.valid in
    ap Ok c.same_valid.ensures ∙ sym (compared-done a.n a.tree.now a.other.now right other)

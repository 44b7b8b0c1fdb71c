use borrow.Author.Rules.{rules}
use Rattle.std.proofs.Common.{◌≡◌, ◌∙◌, ◌-◌, sym, ap, length, false, List, ℕ, Result, Err, Ok}
use Rattle.spec.specs.Memory.{over}
use Rattle.spec.specs.Tree.{step_order}
use Rattle.spec.specs.Calls.{ordered_steps, wrong_tree}
use Rattle.spec.specs.declared.Refusal.{Refusal}
use Rattle.walk.specs.Order.{order_length}
use Rattle.tree.specs.Answers.{counted, ordered_wrong, ordered_right}
use Rattle.tree.proofs.ordered.Goals as goal

pub returns-in_err-tree-clause-answer : goal.returns-in_err-tree-clause-answer
returns-in_err-tree-clause-answer c =
    let e : c.from_residual.result ≡ Err c.in_err-tree.field-0.0 = search rules in
    e ∙ ap Err c.in_err-tree.ensures.err.0 ∙ sym (ap counted (ordered_wrong c.args.n c.args.kids.now c.in_err-tree.ensures.err.1))

pub returns-in_err-tree-clause-steps : goal.returns-in_err-tree-clause-steps
returns-in_err-tree-clause-steps c =
    sym (ap (λ (r : Result (List ℕ) Refusal). ordered_steps r c.args.out.now) (ordered_wrong c.args.n c.args.kids.now c.in_err-tree.ensures.err.1))

pub returns-clause-answer : goal.returns-clause-answer
returns-clause-answer c =
    let n = c.args.n in
    let kids = c.args.kids.now in
    let ok = c.in_ok-tree.ensures.ok in
    let right : wrong_tree n kids ≡ false = (λ j. wrong_tree (sym ok.1 j) (sym ok.0 j)) ∙ c.in_ok-tree.tree.valid in
    let count : c.post_order.result ≡ length (step_order kids n) = c.post_order.ensures.0 ∙ ap (λ (k : ℕ). k - 1) ok.1 ∙ sym (order_length kids n right) in
    ap Ok count ∙ sym (ap counted (ordered_right n kids right))

pub returns-clause-steps : goal.returns-clause-steps
returns-clause-steps c =
    let n = c.args.n in
    let kids = c.args.kids.now in
    let ok = c.in_ok-tree.ensures.ok in
    let right : wrong_tree n kids ≡ false = (λ j. wrong_tree (sym ok.1 j) (sym ok.0 j)) ∙ c.in_ok-tree.tree.valid in
    c.post_order.ensures.1
    ∙ (λ j. over c.args.out.now (step_order (ok.0 j) (ok.1 j)))
    ∙ sym (ap (λ (r : Result (List ℕ) Refusal). ordered_steps r c.args.out.now) (ordered_right n kids right))

use borrow.Author.Rules.{rules}
use Rattle.std.proofs.Common.{◌≡◌, ◌∙◌, ℕ, Result, length, Err, Ok, sym, subst, arith}
use Rattle.spec.specs.declared.Refusal.{Refusal}
use Rattle.spec.specs.Memory.{filled}
use Rattle.cells.specs.Cells.{filled_length, filled_all}
use Rattle.network.specs.Views.{net_in, in_facts, in_indices}
use Rattle.reconf.specs.declared.Visited.{Visited}
use Rattle.slicetree.specs.Answers.{Answered, passed, stands_first, answered_refused, answered_sliced}
use Rattle.slicetree.proofs.slice_in.Goals as goal

pub returns-in_err-check : goal.returns-in_err-check
returns-in_err-check c =
    let a = c.args in
    let N = net_in a.network.now in
    let r = c.in_err-check.field-0.0 in
    let e : c.from_residual.result ≡ Err r = search rules in
    let z : c.check.result ≡ Err r = search rules in
    subst (λ (x : Result Visited Refusal). Answered N a.improving a.target a.kids.now a.flags.now a.kids.now a.flags.now x) (sym e)
    (answered_refused N a.improving a.target a.kids.now a.flags.now r (sym z ∙ c.check.ensures))

pub slice_with-made-requires-clause-closed : goal.slice_with-made-requires-clause-closed
slice_with-made-requires-clause-closed c =
    let a = c.args in
    let z : c.check.result ≡ Ok tt = search rules in
    (passed (net_in a.network.now) a.improving a.kids.now (sym z ∙ c.check.ensures)).closed

pub slice_with-made-requires-clause-stands : goal.slice_with-made-requires-clause-stands
unfolding filled
slice_with-made-requires-clause-stands c =
    let a = c.args in
    let n = a.network.now in
    let z : c.check.result ≡ Ok tt = search rules in
    stands_first (net_in n) a.improving a.target (length n.weights.now) a.kids.now (filled 256 0) (in_indices n) (omega (arith, (in_facts n n.holds).few_indices, filled_length {A = ℕ} 256 0))
    (λ j. filled_all {A = ℕ} 256 j 0) (sym z ∙ c.check.ensures)

pub returns : goal.returns
unfolding filled
returns c =
    let a = c.args in
    let n = a.network.now in
    let z : c.check.result ≡ Ok tt = search rules in
    answered_sliced (net_in n) a.improving a.target (length n.weights.now) a.kids.now (filled 256 0) (in_indices n) (omega (arith, (in_facts n n.holds).few_indices, filled_length {A = ℕ} 256 0))
    (λ j. filled_all {A = ℕ} 256 j 0) (sym z ∙ c.check.ensures) c.slice_with-made.result c.slice_with-made.auto.kids c.slice_with-made.ensures a.flags.now _ c.copy.ensures

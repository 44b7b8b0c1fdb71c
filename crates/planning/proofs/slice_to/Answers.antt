use borrow.Author.Rules.{rules}
use Rattle.std.proofs.Common.{◌≡◌, ◌∙◌, sym, refl, ap, true, Result, Err, length, ℕ, arith}
use Rattle.spec.specs.declared.Refusal.{Refusal}
use Rattle.spec.specs.Calls.{slice_call, sliced_tree, sliced_flags}
use Rattle.spec.specs.Slicing.{Plan}
use Rattle.slicetree.specs.Answers.{counts}
use Rattle.planning.specs.Slices.{slice_refused, slice_counts, slice_done}
use Rattle.planning.specs.Stages.{answers_at}
use Rattle.network.specs.Record.{net_of}
use Rattle.planning.proofs.slice_to.Goals as goal

pub returns-in_err-more : goal.returns-in_err-more
returns-in_err-more c =
    let a = c.args in
    let N = net_of a.network.now in
    let r = c.in_err-more.field-0.0 in
    let e : c.from_residual.result ≡ Err r = search rules in
    let same = ap (λ (w : ℕ). slice_call N true w 6144 (length a.flags.now) a.tree.now) c.from.ensures in
    answers_at (sym e) (slice_refused N a.bits a.tree.now a.flags.now a.counts 6144 (omega arith) c.requires.0 c.requires.1 (c.in_err-more.ensures.answer ∙ ap counts same))

pub overflow_add-result : goal.overflow_add-result
overflow_add-result c =
    let a = c.args in
    let N = net_of a.network.now in
    let same = ap (λ (w : ℕ). slice_call N true w 6144 (length a.flags.now) a.tree.now) c.from.ensures in
    omega (arith, c.requires.1.few_rebuilt, (slice_counts N a.bits a.tree.now a.flags.now a.counts 6144 (omega arith) c.requires.0 c.requires.1 (c.in_ok-more.ensures.answer ∙ ap counts same)).0)

pub overflow_add-result-2 : goal.overflow_add-result-2
overflow_add-result-2 c =
    let a = c.args in
    let N = net_of a.network.now in
    let same = ap (λ (w : ℕ). slice_call N true w 6144 (length a.flags.now) a.tree.now) c.from.ensures in
    omega (arith, c.requires.1.few_tried, (slice_counts N a.bits a.tree.now a.flags.now a.counts 6144 (omega arith) c.requires.0 c.requires.1 (c.in_ok-more.ensures.answer ∙ ap counts same)).1)

pub returns : goal.returns
returns c =
    let a = c.args in
    let N = net_of a.network.now in
    let same = ap (λ (w : ℕ). slice_call N true w 6144 (length a.flags.now) a.tree.now) c.from.ensures in
    slice_done N a.bits a.tree.now a.flags.now a.counts 6144 (omega arith) c.requires.0 c.requires.1 (c.in_ok-more.ensures.answer ∙ ap counts same)
    (c.slice.ensures.tree ∙ ap (λ (x : Result Plan Refusal). sliced_tree x a.tree.now) same)
    (c.slice.ensures.sliced ∙ ap (λ (x : Result Plan Refusal). sliced_flags N x a.flags.now) same) refl

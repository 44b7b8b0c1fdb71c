use borrow.Author.Rules.{rules}
use borrow.Author.Tests.{not-true, not-false}
use Rattle.std.proofs.Common.{◌≡◌, ◌∙◌, ℕ, List, true, false, Err, sym, ap, subst}
use Rattle.std.proofs.lemmas.Bool.{not_from_true, not_from_false}
use Rattle.spec.specs.Tree.{pairs_of}
use Rattle.spec.specs.Calls.{wrong_tree, total_is_beyond}
use Rattle.spec.specs.declared.Refusal.TheVariants.{InvalidTree}
use Rattle.network.specs.Views.{net_in}
use Rattle.slicetree.specs.Answers.{same_tree, check_wrong, check_beyond, check_as_is, check_dangling, check_closed}
use Rattle.slicetree.proofs.check.Goals as goal

pub returns-in_err-tree : goal.returns-in_err-tree
returns-in_err-tree c =
    let a = c.args in
    let w = c.in_err-tree.ensures.err in
    let e : c.from_residual.result ≡ Err InvalidTree = search rules in
    e ∙ check_wrong (net_in a.network.now) a.improving a.kids.now
    (subst (λ (k : ℕ). wrong_tree k a.kids.now ≡ true) c.leaf_count.ensures w.1)

pub returns-then-is_beyond : goal.returns-then-is_beyond
returns-then-is_beyond c =
    let a = c.args in
    let N = net_in a.network.now in
    let t = c.in_ok-tree.tree in
    let ok = c.in_ok-tree.ensures.ok in
    let right = same_tree N ok.1 c.leaf_count.ensures ok.0 t.valid in
    let b = c.is_beyond.ensures ∙ ap (λ (l : List ℕ). total_is_beyond N (λ j. false) (pairs_of l)) ok.0 in
    check_beyond N a.improving a.kids.now right (sym b ∙ c.if-is_beyond.true)

pub returns-then-not-improving : goal.returns-then-not-improving
returns-then-not-improving c =
    let a = c.args in
    let N = net_in a.network.now in
    let t = c.in_ok-tree.tree in
    let ok = c.in_ok-tree.ensures.ok in
    let right = same_tree N ok.1 c.leaf_count.ensures ok.0 t.valid in
    let b = c.is_beyond.ensures ∙ ap (λ (l : List ℕ). total_is_beyond N (λ j. false) (pairs_of l)) ok.0 in
    check_as_is N a.improving a.kids.now right (sym b ∙ c.if-is_beyond.false) (not-true a.improving (not_from_false _ c.if-not-improving.true))

pub returns-then-is_dangling : goal.returns-then-is_dangling
returns-then-is_dangling c =
    let a = c.args in
    let N = net_in a.network.now in
    let t = c.in_ok-tree.tree in
    let ok = c.in_ok-tree.ensures.ok in
    let right = same_tree N ok.1 c.leaf_count.ensures ok.0 t.valid in
    let b = c.is_beyond.ensures ∙ ap (λ (l : List ℕ). total_is_beyond N (λ j. false) (pairs_of l)) ok.0 in
    check_dangling N a.improving a.kids.now right (sym b ∙ c.if-is_beyond.false) (not-false a.improving (not_from_true _ c.if-not-improving.false))
    (sym c.is_dangling.ensures ∙ c.if-is_dangling.true)

pub returns : goal.returns
returns c =
    let a = c.args in
    let N = net_in a.network.now in
    let t = c.in_ok-tree.tree in
    let ok = c.in_ok-tree.ensures.ok in
    let right = same_tree N ok.1 c.leaf_count.ensures ok.0 t.valid in
    let b = c.is_beyond.ensures ∙ ap (λ (l : List ℕ). total_is_beyond N (λ j. false) (pairs_of l)) ok.0 in
    check_closed N a.improving a.kids.now right (sym b ∙ c.if-is_beyond.false) (not-false a.improving (not_from_true _ c.if-not-improving.false))
    (sym c.is_dangling.ensures ∙ c.if-is_dangling.false)

use borrow.Author.Rules.{rules}
use Rattle.std.proofs.Common.{◌≡◌, ◌∙◌, ◌≤◌, sym, false, Err, arith}
use Rattle.spec.specs.Memory.{filled}
use Rattle.spec.specs.Tree.{step_order}
use Rattle.spec.specs.Calls.{wrong_tree}
use Rattle.spec.specs.declared.Refusal.TheVariants.{InvalidTree, InvalidFlags}
use Rattle.network.specs.Views.{net_in, in_facts, in_leaves}
use Rattle.walk.specs.Order.{order_length}
use Rattle.cost.specs.Answers.{rest_call}
use Rattle.cost.specs.Checks.{rest_tree, rest_flags, rest_done, order_front, answered_refused, answered_done}
use Rattle.cost.proofs.priced_in.Goals as goal

pub returns-in_err-tree-clause-answered : goal.returns-in_err-tree-clause-answered
returns-in_err-tree-clause-answered c =
    let a = c.args in
    let N = net_in a.network.now in
    let w = c.in_err-tree.ensures.err in
    let e : c.from_residual.result ≡ Err InvalidTree = search rules in
    rw e
    (answered_refused N a.flags.now a.kids.now a.list.now.sets.now a.list.now.sizes.now a.list.now.works.now a.steps.now (rest_call N a.flags.now a.kids.now) InvalidTree
    (rest_tree N a.flags.now a.kids.now c.leaf_count.result (sym c.leaf_count.ensures) w.1))

pub returns-then-wrong_flags-clause-answered : goal.returns-then-wrong_flags-clause-answered
returns-then-wrong_flags-clause-answered c =
    let a = c.args in
    let N = net_in a.network.now in
    let ok = c.in_ok-tree.ensures.ok in
    let right : wrong_tree c.leaf_count.result a.kids.now ≡ false = (λ j. wrong_tree (sym ok.1 j) (sym ok.0 j)) ∙ c.in_ok-tree.tree.valid in
    answered_refused N a.flags.now a.kids.now a.list.now.sets.now a.list.now.sizes.now a.list.now.works.now a.steps.now (rest_call N a.flags.now a.kids.now) InvalidFlags
    (rest_flags N a.flags.now a.kids.now c.leaf_count.result c.index_count.result (sym c.leaf_count.ensures) (sym c.index_count.ensures) right (sym c.wrong_flags.ensures ∙ c.if-wrong_flags.true))

pub price_listed-requires-clause-order : goal.price_listed-requires-clause-order
unfolding filled
price_listed-requires-clause-order c =
    let n = c.args.network.now in
    let t = c.in_ok-tree.tree in
    let few : t.leaves ≤ 128 = omega (arith, c.in_ok-tree.ensures.ok.1, c.leaf_count.ensures, in_leaves n, (in_facts n n.holds).few_leaves) in
    order_front (filled 128 0) c.post_order-c.new.out (step_order t.kids.now t.leaves) c.post_order-c.result c.post_order-c.ensures.1
    (order_length t.kids.now t.leaves t.valid ∙ sym c.post_order-c.ensures.0) (omega (arith, c.post_order-c.ensures.0))

pub returns-clause-answered : goal.returns-clause-answered
returns-clause-answered c =
    let a = c.args in
    let N = net_in a.network.now in
    let ok = c.in_ok-tree.ensures.ok in
    let right : wrong_tree c.leaf_count.result a.kids.now ≡ false = (λ j. wrong_tree (sym ok.1 j) (sym ok.0 j)) ∙ c.in_ok-tree.tree.valid in
    answered_done N a.flags.now a.kids.now a.list.now.sets.now a.list.now.sizes.now a.list.now.works.now a.steps.now (rest_call N a.flags.now a.kids.now) _ _ _ _ _
    (rest_done N a.flags.now a.kids.now c.leaf_count.result c.index_count.result (sym c.leaf_count.ensures) (sym c.index_count.ensures) right (sym c.wrong_flags.ensures ∙ c.if-wrong_flags.false))
    (rw ok.0 at c.price_listed.ensures.pricing)

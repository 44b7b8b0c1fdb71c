use Rattle.spec.specs.declared.Refusal.TheVariants.{InvalidTree, InvalidFlags}
use Rattle.spec.specs.Calls.{wrong_tree}
use Rattle.network.specs.Views.{net_in}
use Rattle.cost.specs.Checks.{tree_wrong, tree_right}
use Rattle.reconfigure.specs.Checks.{rest_tree, rest_flags, rest_last, answered_refused, answered_as}
use mathlib.Core.Path.{sym, ◌∙◌}
use Rattle.std.proofs.lemmas.Bool.{not_from_true, not_from_false}
use Rattle.reconfigure.proofs.improve_tree.Goals as goal

pub returns-then-not-is_tree : goal.returns-then-not-is_tree
returns-then-not-is_tree c = let a = c.args in let N = net_in a.task.now.network in
    answered_refused InvalidTree (rest_tree N a.task.now.search.k a.most a.task.now.search.limit a.task.now.search.flags.now a.kids.now c.leaf_count.result (sym c.leaf_count.ensures) (tree_wrong c.is_tree.result (wrong_tree c.leaf_count.result a.kids.now) c.is_tree.ensures (not_from_false _ c.if-not-is_tree.true)))

pub returns-then-wrong_flags : goal.returns-then-wrong_flags
returns-then-wrong_flags c = let a = c.args in let N = net_in a.task.now.network in
    answered_refused InvalidFlags (rest_flags N a.task.now.search.k a.most a.task.now.search.limit a.task.now.search.flags.now a.kids.now c.leaf_count.result c.index_count.result (sym c.leaf_count.ensures) (sym c.index_count.ensures)
    (tree_right c.is_tree.result (wrong_tree c.leaf_count.result a.kids.now) c.is_tree.ensures (not_from_true _ c.if-not-is_tree.false)) (sym c.wrong_flags.ensures ∙ c.if-wrong_flags.true))

pub returns : goal.returns
returns c = let a = c.args in let N = net_in a.task.now.network in
    answered_as (rest_last N a.task.now.search.k a.most a.task.now.search.limit a.task.now.search.flags.now a.kids.now c.leaf_count.result c.index_count.result (sym c.leaf_count.ensures) (sym c.index_count.ensures)
    (tree_right c.is_tree.result (wrong_tree c.leaf_count.result a.kids.now) c.is_tree.ensures (not_from_true _ c.if-not-is_tree.false)) (sym c.wrong_flags.ensures ∙ c.if-wrong_flags.false)) c.improve_valid.ensures

use Rattle.std.proofs.Common.{◌∙◌, sym, arith}
use Rattle.spec.specs.Memory.{filled}
use Rattle.spec.specs.Tree.{step_order}
use Rattle.walk.specs.Order.{order_length}
use Rattle.network.specs.Views.{in_facts, in_leaves}
use Rattle.cost.specs.Checks.{order_front}
use Rattle.slicetree.proofs.slice_with.Goals as goal

pub slice-requires-2-clause-order : goal.slice-requires-2-clause-order
unfolding filled
slice-requires-2-clause-order c =
    let n = c.args.network.now in
    let kids = c.args.kids.now in
    order_front (filled 128 0) c.post_order-c.new.out (step_order kids c.leaf_count.result) c.post_order-c.result c.post_order-c.ensures.1
    (order_length kids c.leaf_count.result (rw c.leaf_count.ensures c.requires.stands.right) ∙ sym c.post_order-c.ensures.0)
    (omega (arith, c.post_order-c.ensures.0, c.leaf_count.ensures, in_leaves n, (in_facts n n.holds).few_leaves))

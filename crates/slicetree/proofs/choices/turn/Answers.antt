use borrow.Author.Tests.{not-false}
use Rattle.std.proofs.Common.{◌∙◌, sym, arith}
use Rattle.std.proofs.lemmas.Bool.{not_from_true}
use Rattle.spec.specs.Memory.{filled}
use Rattle.spec.specs.Tree.{step_order}
use Rattle.walk.specs.Order.{order_length}
use Rattle.network.specs.Views.{in_facts, in_leaves}
use Rattle.cost.specs.Checks.{order_front}
use Rattle.slicetree.specs.Choices.{choice_made, within_next}
use Rattle.slicetree.proofs.choices.turn.Goals as goal

pub turn-requires-clause-order : goal.turn-requires-clause-order
unfolding filled
turn-requires-clause-order c =
    let n = c.args.network.now in
    let kids = c.args.kids.now in
    order_front (filled 128 0) c.post_order-c.new.out (step_order kids c.leaf_count.result) c.post_order-c.result c.post_order-c.ensures.1
    (order_length kids c.leaf_count.result (rw c.leaf_count.ensures c.requires.stands.right) ∙ sym c.post_order-c.ensures.0)
    (omega (arith, c.post_order-c.ensures.0, c.leaf_count.ensures, in_leaves n, (in_facts n n.holds).few_leaves))

pub improve_once-requires-clause-stands : goal.improve_once-requires-clause-stands
improve_once-requires-clause-stands c =
    record { right = c.requires.stands.right; within = within_next c.requires.stands c.turn.ensures (not-false c.turn.result (not_from_true _ c.if-not-turn.false)) }

pub returns : goal.returns
returns c = choice_made c.requires.stands c.turn.ensures (not-false c.turn.result (not_from_true _ c.if-not-turn.false)) c.improve_once.ensures

use Rattle.std.proofs.Common.{◌≡◌, ℕ, ◌*◌, ◌≤◌, length, refl, sym, ap, ◌∙◌, arith}
use Rattle.std.proofs.lemmas.List.{length_push}
use Rattle.std.proofs.lemmas.Iterator.Adapters.{YieldsList-from_rev_slice}
use Rattle.std.proofs.lemmas.Iterator.Consumers.{YieldsList-turn}
use Rattle.slots.specs.Slots.{with_set_length}
use Rattle.nodesets.specs.Turns.{step_inner, node_slot, left_slot, right_slot, downs_none, downs_next}
use Rattle.laws.specs.FlatLaws.{left_of, right_of}
use Rattle.nodesets.specs.Passes.{nodes, downs}
use Rattle.nodesets.proofs.Back.{turned_back}
use Rattle.nodesets.proofs.want_down.Goals as goal

pub loop-node-init : goal.loop-node-init
loop-node-init c = (refl, downs_none _ _ _ _ _ _)

pub left-l-requires : goal.left-l-requires
left-l-requires c =
    let o = c.args.order.now in
    let t = turned_back o _ _ (YieldsList-turn (YieldsList-from_rev_slice o cc) c.loop-node.yielded _ c.loop-node.yielded_by _ _ c.in-Some.field-0 c.in-Some.is c.next.ensures.steps) in
    step_inner c.requires.0 _ c.from-v.result t.1 (c.from-v.ensures ∙ t.2)

pub right-r-requires : goal.right-r-requires
right-r-requires c =
    let o = c.args.order.now in
    let t = turned_back o _ _ (YieldsList-turn (YieldsList-from_rev_slice o cc) c.loop-node.yielded _ c.loop-node.yielded_by _ _ c.in-Some.field-0 c.in-Some.is c.next.ensures.steps) in
    step_inner c.requires.0 _ c.from-v.result t.1 (c.from-v.ensures ∙ t.2)

pub combine_with-requires : goal.combine_with-requires
combine_with-requires c =
    let o = c.args.order.now in
    let t = turned_back o _ _ (YieldsList-turn (YieldsList-from_rev_slice o cc) c.loop-node.yielded _ c.loop-node.yielded_by _ _ c.in-Some.field-0 c.in-Some.is c.next.ensures.steps) in
    let e = c.from-v.ensures ∙ t.2 in
    let room : nodes c.args.n c.args.kids.now * c.args.w ≤ length c.loop-node.outside = omega arith in
    (node_slot c.requires.0 _ _ t.1 e c.args.w room, left_slot c.requires.0 _ _ t.1 e c.args.w c.left-l.ensures.0 room, right_slot c.requires.0 _ _ t.1 e c.args.w c.right-r.ensures.0 c.requires.2)

pub combine_with-requires-in-loop-node : goal.combine_with-requires-in-loop-node
combine_with-requires-in-loop-node c =
    let o = c.args.order.now in
    let t = turned_back o _ _ (YieldsList-turn (YieldsList-from_rev_slice o cc) c.loop-node.yielded _ c.loop-node.yielded_by _ _ c.in-Some.field-0 c.in-Some.is c.next.ensures.steps) in
    let e = c.from-v.ensures ∙ t.2 in
    let f : length c.combine_with.new.words ≡ length c.loop-node.outside = ap length c.combine_with.ensures ∙ with_set_length _ _ _ _ in
    let room : nodes c.args.n c.args.kids.now * c.args.w ≤ length c.combine_with.new.words = omega arith in
    (node_slot c.requires.0 _ _ t.1 e c.args.w room, right_slot c.requires.0 _ _ t.1 e c.args.w c.right-r.ensures.0 room, left_slot c.requires.0 _ _ t.1 e c.args.w c.left-l.ensures.0 c.requires.2)

pub loop-node-preserved : goal.loop-node-preserved
loop-node-preserved c =
    let o = c.args.order.now in
    let t = turned_back o _ _ (YieldsList-turn (YieldsList-from_rev_slice o cc) c.loop-node.yielded _ c.loop-node.yielded_by _ _ c.in-Some.field-0 c.in-Some.is c.next.ensures.steps) in (
      ap length c.combine_with-in-loop-node.ensures ∙ with_set_length _ _ _ _ ∙ ap length c.combine_with.ensures ∙ with_set_length _ _ _ _ ∙ c.loop-node.invariant.0,
      downs_next _ _ _ _ _ _ _ _ _ _ _ _ _ c.loop-node.invariant.1 (c.from-v.ensures ∙ t.2) c.left-l.ensures.0 c.right-r.ensures.0 c.combine_with.ensures c.combine_with-in-loop-node.ensures
          ∙ ap (λ (j : ℕ). downs c.args.w (left_of c.args.kids.now c.args.n) (right_of c.args.kids.now c.args.n) o c.args.sets.now c.args.outside.now j) (sym (length_push c.loop-node.yielded c.in-Some.field-0)),
    )

use borrow.Author.Rules.{rules}
use Rattle.slots.specs.Writes.{among, refilled}
use Rattle.slots.specs.Slots.{with_set}
use Rattle.nodesets.specs.Turns.{ups_length}
use Rattle.nodesets.specs.Sets.{with_sets_length}
use Rattle.nodesets.specs.Lists.{ordered_steps, passed}
use native.Mathlib.Omega.{arith}
use Prim.Native.Nat.{ℕ}
use mathlib.Core.Path.{◌≡◌, ap, ◌∙◌}
use lib.ListN.{length}
use Rattle.nodesets.proofs.node_sets.Goals as goal

pub empty-requires : goal.empty-requires
empty-requires c = (c.requires.narrow, omega (arith, c.saturating_sub-top.ensures, (ordered_steps c.requires.ordered).numbers))

pub put_all-requires : goal.put_all-requires
put_all-requires c = (c.requires.narrow, omega (arith, c.saturating_sub-top.ensures, (ordered_steps c.requires.ordered).numbers), omega (arith, c.requires.few.1))

pub join_up-requires : goal.join_up-requires
join_up-requires c = (ordered_steps c.requires.ordered, search rules)

pub want_down-requires : goal.want_down-requires
want_down-requires c = (ordered_steps c.requires.ordered, search rules, search rules)

pub trim_all-requires : goal.trim_all-requires
trim_all-requires c = (ordered_steps c.requires.ordered, omega (arith, c.requires.sets, ap length c.join_up.ensures ∙ ups_length _ _ _ _ _ _ ∙ ap length c.leaf_sets.ensures ∙ with_sets_length _ _ _ _), search rules)

pub returns : goal.returns
returns c =
    let a = c.args in
    let outs : c.put_all.new.words ≡ with_set a.outside.now a.w c.saturating_sub-top.result (among a.outputs.now 0 a.o) = refilled a.outside.now c.empty.new.words c.put_all.new.words a.w c.saturating_sub-top.result a.outputs.now 0 a.o c.empty.ensures c.put_all.ensures in
    passed a.w a.n a.o a.counts.now a.legs.now a.outputs.now a.kids.now a.order.now a.sets.now a.outside.now c.trim_all.new.sets
    (record { ordered = c.requires.ordered; room = c.requires.sets; room_outside = c.requires.outside; words = λ i. omega (arith, c.type_inv.sets i) })
    (record {
      leaves = c.leaf_sets.new.sets;
      outs = c.put_all.new.words;
      joins = c.join_up.new.sets;
      wants = c.want_down.new.outside;
      leaves_are = c.leaf_sets.ensures;
      outs_are = outs ∙ ap (λ (v : ℕ). with_set a.outside.now a.w v (among a.outputs.now 0 a.o)) c.saturating_sub-top.ensures;
      joins_are = c.join_up.ensures;
      wants_are = c.want_down.ensures;
      sets_are = c.trim_all.ensures;
    })

use Rattle.spec.specs.Memory.{filled}
use Rattle.slicing.specs.Priced.{turn_priceable, turn_room, sizes_long, works_long, priced_tree, widest_is, rankable}
use Rattle.slicing.specs.Promise.{Rankable, Chosen}
use Rattle.slicing.specs.Turns.{turned_within, turned}
use Rattle.network.specs.Views.{net_in, in_leaves}
use Rattle.spec.specs.Price.{up_to}
use Rattle.pricing.specs.Sums.{work_sum}
use Rattle.spec.specs.Slicing.{within_target}
use Prim.Native.Nat.{ℕ}
use lib.ListN.{length}
use mathlib.Core.Path.{refl, sym, ap, subst, ◌∙◌}
use Rattle.slicing.proofs.turn.Goals as goal

pub widest-requires : goal.widest-requires
unfolding filled
widest-requires c =
    let a = c.args in
    let q = c.requires in
    sizes_long (turn_priceable a.network.now a.tree.now a.order.now q.leaves q.order) a.flags.now c.price.ensures.filled
    (turn_room a.network.now a.tree.now a.order.now q.leaves q.order (length a.outside.now) q.outside)

pub total-requires : goal.total-requires
unfolding filled
total-requires c =
    let a = c.args in
    let q = c.requires in
    works_long (turn_priceable a.network.now a.tree.now a.order.now q.leaves q.order) a.flags.now c.price.ensures.filled
    (turn_room a.network.now a.tree.now a.order.now q.leaves q.order (length a.outside.now) q.outside)

pub returns-then-within : goal.returns-then-within
unfolding filled
returns-then-within c =
    let a = c.args in
    let q = c.requires in
    let p = turn_priceable a.network.now a.tree.now a.order.now q.leaves q.order in
    let room = turn_room a.network.now a.tree.now a.order.now q.leaves q.order (length a.outside.now) q.outside in
    let total = up_to (work_sum c.price.new.self.works.now (length a.network.now.leg_counts.now) (length a.order.now)) in
    turned_within (net_in a.network.now) a.target a.tree.now.kids.now a.flags.now
    (ap (within_target a.target) (sym (widest_is p a.flags.now c.price.ensures.filled room total c.widest.result refl c.widest.ensures))
    ∙ sym c.within.ensures ∙ c.if-within.true)

pub choose-best-requires : goal.choose-best-requires
unfolding filled
choose-best-requires c =
    let a = c.args in
    let b = a.network.now in
    let q = c.requires in
    let p = turn_priceable b a.tree.now a.order.now q.leaves q.order in
    let room = turn_room b a.tree.now a.order.now q.leaves q.order (length a.outside.now) q.outside in
    let s = c.price.new.self in
    subst
    (λ (n : ℕ). Rankable 4 (length b.weights.now) n b.weights.now a.tree.now.kids.now a.order.now s.sets.now s.sizes.now s.works.now c.exact-total.result)
    (sym (q.leaves ∙ in_leaves b))
    (rankable p a.flags.now c.price.ensures.filled room c.total.result c.widest.result c.total.ensures c.widest.ensures q.within.total
    c.exact-total.result c.exact-total.ensures)

pub returns : goal.returns
unfolding filled
returns c =
    let a = c.args in
    let b = a.network.now in
    let q = c.requires in
    let p = turn_priceable b a.tree.now a.order.now q.leaves q.order in
    let room = turn_room b a.tree.now a.order.now q.leaves q.order (length a.outside.now) q.outside in
    let s = c.price.new.self in
    let f = c.price.ensures.filled in
    let best = subst
    (λ (n : ℕ). Chosen 4 (length b.weights.now) n (length b.outputs.now) b.weights.now b.outputs.now a.flags.now a.tree.now.kids.now a.order.now s.sets.now s.sizes.now s.works.now a.target c.choose-best.result)
    (q.leaves ∙ in_leaves b) c.choose-best.ensures in
    turned (net_in b) a.target a.tree.now.kids.now a.flags.now c.choose-best.result c.flag.result _
    (ap (within_target a.target) (sym (widest_is p a.flags.now f room c.total.result c.widest.result c.total.ensures c.widest.ensures))
    ∙ sym c.within.ensures ∙ c.if-within.false)
    (λ x y. best b.leg_counts.now b.legs.now x y (priced_tree p a.flags.now f room))
    c.flag.ensures.0 c.flag.ensures.1

use Rattle.std.proofs.Common.{ℕ, ◌≡◌, ◌+◌, length, ap, sym, subst, ◌∙◌, arith}
use Rattle.cells.specs.Cells.{over_length}
use Rattle.spec.specs.Layout.{firsts}
use Rattle.spec.specs.Memory.{over}
use Rattle.laws.specs.FlatLaws.{left_of, right_of}
use Rattle.network.specs.Views.{in_leaves}
use Rattle.nodesets.specs.Passes.{nodes}
use Rattle.nodesets.specs.Steps.{Steps}
use Rattle.pricing.specs.Accept.{ready, ready_lines}
use Rattle.pricing.specs.Answers.{widest_in}
use Rattle.pricing.specs.Lines.{lines}
use Rattle.pricing.specs.Final.{weights_light, listing_sound, price_list, price_answer}
use Rattle.pricing.proofs.list.PriceList.price_listed.Goals as goal

pub list_steps-requires : goal.list_steps-requires
list_steps-requires g c =
    let a = c.args in
    let q = c.requires in
    let r = ready a.network.now a.tree.now _ a.w q.width q.fits q.leaves q.order q.room in
    let e = q.leaves ∙ in_leaves a.network.now in
    let f = c.price.ensures.filled in (
      subst (λ (n : ℕ). Steps n a.tree.now.kids.now a.order.now) (sym e) r.steps,
      ready_lines a.network.now a.tree.now _ a.w q.width q.fits q.leaves q.order q.steps,
      omega (arith, e, r.room.for_works, ap length f.works_are ∙ over_length _ _),
      omega (arith, e, r.room.for_sizes, ap length f.sizes_are ∙ over_length _ _),
    )

pub total-requires : goal.total-requires
total-requires g c =
    let a = c.args in
    let q = c.requires in
    let r = ready a.network.now a.tree.now _ a.w q.width q.fits q.leaves q.order q.room in
    omega (arith, r.steps.steps, r.steps.numbers, r.room.for_works, ap length c.price.ensures.filled.works_are ∙ over_length _ _)

pub widest-requires : goal.widest-requires
widest-requires g c =
    let a = c.args in
    let q = c.requires in
    let r = ready a.network.now a.tree.now _ a.w q.width q.fits q.leaves q.order q.room in
    omega (arith, r.steps.steps, r.steps.numbers, r.room.for_sizes, ap length c.price.ensures.filled.sizes_are ∙ over_length _ _)

pub slice_bits-requires : goal.slice_bits-requires
slice_bits-requires g c =
    let a = c.args in
    let q = c.requires in
    let p = (ready a.network.now a.tree.now _ a.w q.width q.fits q.leaves q.order q.room).priceable in
    (p.weight_places, omega (arith, p.fits, p.narrow), weights_light p)

pub returns-clause-pricing : goal.returns-clause-pricing
returns-clause-pricing g c =
    let a = c.args in
    let q = c.requires in
    let b = a.network.now in
    let r = ready b a.tree.now _ a.w q.width q.fits q.leaves q.order q.room in
    let p = r.priceable in
    let e : length b.leg_counts.now + length a.order.now ≡ nodes (length b.leg_counts.now) a.tree.now.kids.now = omega (arith, r.steps.steps, r.steps.numbers) in
    let f = c.price.ensures.filled in
    let s = c.price.new.self in
    let kids = a.tree.now.kids.now in
    let lines_are = subst
    (λ (n : ℕ). c.list_steps.new.steps ≡ over a.steps.now (lines (left_of kids n) (right_of kids n) s.works.now s.sizes.now a.order.now))
    (q.leaves ∙ in_leaves b) c.list_steps.ensures in
    let l = price_list p a.flags.now r.room.for_sizes r.room.for_works f lines_are in
    record {
      list = l;
      answer = price_answer p a.flags.now r.room.for_sizes r.room.for_works f c.total.result c.widest.result c.slice_bits.result
          c.total.ensures (c.widest.ensures ∙ ap (λ (x : ℕ). widest_in (firsts x c.price.new.self.sizes.now)) e) c.slice_bits.ensures;
      sound = listing_sound p a.flags.now r.room.for_sets
          (ready_lines b a.tree.now _ a.w q.width q.fits q.leaves q.order q.steps) l;
    }

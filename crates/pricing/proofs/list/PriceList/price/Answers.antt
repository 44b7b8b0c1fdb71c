use Rattle.std.proofs.Common.{arith}
use Rattle.pricing.specs.Accept.{ready, ready_outside}
use Rattle.pricing.specs.Final.{known, filled}
use Rattle.pricing.proofs.list.PriceList.price.Goals as goal

pub effective_weights-requires : goal.effective_weights-requires
effective_weights-requires g c =
    let a = c.args in
    let q = c.requires in
    let r = ready a.network.now a.tree.now _ a.w q.width q.fits q.leaves q.order q.room in
    (omega arith, omega (arith, r.priceable.fits, q.width))

pub node_sets-requires : goal.node_sets-requires
node_sets-requires g c =
    let a = c.args in
    let q = c.requires in
    let r = ready a.network.now a.tree.now _ a.w q.width q.fits q.leaves q.order q.room in
    let p = r.priceable in
    record {
      narrow = p.narrow;
      few = (p.few, p.few_outputs);
      ordered = p.ordered;
      sets = r.room.for_sets;
      outside = ready_outside a.network.now a.tree.now _ a.w q.width q.fits q.leaves q.order q.outside;
    }

pub node_bits-requires : goal.node_bits-requires
node_bits-requires g c =
    let a = c.args in
    let q = c.requires in
    let r = ready a.network.now a.tree.now _ a.w q.width q.fits q.leaves q.order q.room in
    let p = r.priceable in (
      known p a.flags.now c.effective_weights.new.effective a.self.now.sets.now c.node_sets.new.sets c.effective_weights.ensures r.room.for_sets
          (c.node_sets.ensures _ a.network.now.weights.now p.accepted.in_range) (omega (arith, q.width)) (omega (arith, r.room.for_sets, c.node_sets.auto.sets)),
      r.room.for_sizes,
      r.room.for_works,
    )

pub returns-clause-filled : goal.returns-clause-filled
returns-clause-filled g c =
    let a = c.args in
    let q = c.requires in
    let r = ready a.network.now a.tree.now _ a.w q.width q.fits q.leaves q.order q.room in
    let p = r.priceable in
    filled p a.flags.now c.effective_weights.new.effective a.self.now.sets.now c.node_sets.new.sets c.effective_weights.ensures r.room.for_sets
    (c.node_sets.ensures _ a.network.now.weights.now p.accepted.in_range) a.self.now.sizes.now a.self.now.works.now _ _ c.node_bits.ensures.0 c.node_bits.ensures.1

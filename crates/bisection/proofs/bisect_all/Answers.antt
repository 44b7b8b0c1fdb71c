use Rattle.bisection.specs.Whole.{whole_many, whole_few, named_exact, answer_exact}
use Rattle.network.specs.Views.{in_facts}
use Rattle.std.proofs.Common.{arith, ap, sym, length, take, length-take-le}
use Rattle.bisection.proofs.bisect_all.Goals as goal

pub bisect_rec-requires : goal.bisect_rec-requires
bisect_rec-requires c = let a = c.args in let n = a.network.now in let f = in_facts n n.holds in (
  whole_many _ _ _ n.weights.now n.leg_counts.now n.legs.now n.outputs.now (omega arith) (omega arith) f _ (omega arith) _ (ap (take (length n.leg_counts.now)) c.count_up.ensures),
  whole_few _ _ _ n.weights.now n.leg_counts.now n.legs.now n.outputs.now (omega arith) (omega arith) f _ (omega arith) _ (ap (take (length n.leg_counts.now)) c.count_up.ensures),
  named_exact n.weights.now n.leg_counts.now n.legs.now n.outputs.now f _ (omega arith) _ (ap (take (length n.leg_counts.now)) c.count_up.ensures) a.kids.now,
  c.requires.0,
)

pub returns : goal.returns
returns c = let a = c.args in let n = a.network.now in let f = in_facts n n.holds in λ words e.
    answer_exact n.weights.now n.leg_counts.now n.legs.now n.outputs.now f _ (omega arith) _ (ap (take (length n.leg_counts.now)) c.count_up.ensures) a.imbalance a.cutoff words a.draws.now e _ c.imbalance-eps.ensures a.kids.now _ _ _ c.bisect_rec.ensures

pub count_up-requires : goal.count_up-requires
count_up-requires c = let n = c.args.network.now in omega (arith, (in_facts n n.holds).few_leaves)

pub slice_bounds-numbers-end : goal.slice_bounds-numbers-end
slice_bounds-numbers-end c = let n = c.args.network.now in omega (arith, (in_facts n n.holds).few_leaves)

pub slice_bounds-bisect_rec-end : goal.slice_bounds-bisect_rec-end
slice_bounds-bisect_rec-end c = let n = c.args.network.now in sym (length-take-le (length n.leg_counts.now) c.count_up.new.list (omega (arith, (in_facts n n.holds).few_leaves)))

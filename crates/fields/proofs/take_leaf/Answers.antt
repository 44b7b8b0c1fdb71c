use borrow.Author.Rules.{rules}
use Rattle.fields.specs.Fields.{taken_not, leaf_fits, leaf_decide, leaf_taken, indices, leaves}
use Rattle.fields.specs.Scans.{record_in}
use Rattle.network.specs.Record.{net_of}
use Rattle.std.proofs.Common.{Err}
use native.Mathlib.Omega.{arith}
use mathlib.Core.Path.{◌≡◌, sym, ◌∙◌}
use Rattle.fields.proofs.take_leaf.Goals as goal

pub returns-in_err-check_leaf : goal.returns-in_err-check_leaf
returns-in_err-check_leaf c = let k = c.in_err-check_leaf.field-0.0 in
    let e : c.from_residual.result ≡ Err k = search rules in
    λ w o h. let n = record_in c.args.counts w c.args.leg_counts.now c.args.legs.now o in
    rw e (taken_not _ _ (leaf_decide c.args.payload.now (net_of n) _ _ (indices n) (leaves n)) k (sym c.in_err-check_leaf.was ∙ c.check_leaf.ensures))

pub overflow_cast-leg_counts : goal.overflow_cast-leg_counts
overflow_cast-leg_counts c = omega (arith, (leaf_fits c.args.payload.now _ _ (sym c.in_ok-check_leaf.was ∙ c.check_leaf.ensures)).0)

pub bounds-leg_counts-leaf : goal.bounds-leg_counts-leaf
bounds-leg_counts-leaf c = omega (arith, c.requires.0, (leaf_fits c.args.payload.now _ _ (sym c.in_ok-check_leaf.was ∙ c.check_leaf.ensures)).1)

pub overflow_mul-leaf : goal.overflow_mul-leaf
overflow_mul-leaf c = omega (arith, (leaf_fits c.args.payload.now _ _ (sym c.in_ok-check_leaf.was ∙ c.check_leaf.ensures)).1)

pub overflow_add-more : goal.overflow_add-more
overflow_add-more c = omega (arith, (leaf_fits c.args.payload.now _ _ (sym c.in_ok-check_leaf.was ∙ c.check_leaf.ensures)).1)

pub returns : goal.returns
unfolding net_of
returns c = let p = c.args.payload.now in
    let e = sym c.in_ok-check_leaf.was ∙ c.check_leaf.ensures in
    λ w o h. let n = record_in c.args.counts w c.args.leg_counts.now c.args.legs.now o in
    rw (c.bare.ensures, c.place.ensures) (leaf_taken n h p c.requires.0 c.requires.1 e)

use Rattle.std.proofs.Common.{◌∙◌, ℕ, ◌+◌, ◌-◌, refl, ap, Some, arith}
use Rattle.spec.specs.Layout.{firsts}
use Rattle.spec.specs.Slicing.{or_zero}
use Rattle.std.specs.Prelude.{max, Option}
use Rattle.pricing.specs.Answers.{widest_in}
use Rattle.network.specs.Views.{net_in, in_facts, in_leaves}
use Rattle.slicetree.specs.Once.{standing_of, once, limit_is}
use Rattle.slicetree.proofs.choices.improve_once.Goals as goal

pub returns : goal.returns
returns c =
    let a = c.args in
    let n = a.network.now in
    let N = net_in n in
    let held = c.price.ensures.held in
    let e = c.limit.ensures
    ∙ ap (λ (w : Option ℕ). max (or_zero w) a.target) c.widest-widest.ensures
    ∙ ap (λ (x : ℕ). max (or_zero (widest_in (firsts (c.leaf_count-n.result + x) c.price.new.list.sizes.now))) a.target) c.saturating_sub.ensures
    ∙ ap (λ (x : ℕ). max (or_zero (widest_in (firsts (x + (x - 1)) c.price.new.list.sizes.now))) a.target) c.leaf_count-n.ensures in
    once a.target refl (omega (arith, in_leaves n, (in_facts n n.holds).few_leaves)) (standing_of refl held c.requires.stands.right c.requires.stands.within.total)
    (Some c.limit.result) (limit_is a.target refl held c.requires.stands.right (Some c.limit.result) (ap Some e)) c.improve.auto.kids c.improve.ensures.improves

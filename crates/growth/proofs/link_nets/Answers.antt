use Rattle.growth.specs.Links.{linked_net}
use Rattle.partition.specs.Folds.{fold_next}
use Rattle.std.proofs.Common.{rules, ap, ◌∙◌, ℕ}
use Rattle.growth.proofs.link_nets.Goals as goal

pub loop-e-preserved : goal.loop-e-preserved
loop-e-preserved c =
    let a = c.args in let l = c.loop-e in (
      fold_next (linked_net a.words.now a.nets a.weights.now) a.list.now a.links.now l.links _ l.e-index c.loop-e-test.true l.invariant.0 (c.link_net.ensures ∙ ap (λ (e : ℕ). linked_net a.words.now a.nets a.weights.now e l.links) c.from.ensures),
      search rules,
    )

use Rattle.std.proofs.Common.{ap, ◌∙◌, arith}
use borrow.Author.Tests.{not-true, not-false}
use Rattle.std.proofs.lemmas.Bool.{not_from_true, not_from_false}
use Rattle.tables.specs.Lists.{coded, coded-set}
use Rattle.rows.specs.Rows.{renewed_none, renewed_next, renewed_stands, renewed_found}
use Rattle.rows.proofs.fronts.renew_all.Goals.{then-not-still, else-not-still}
use Rattle.rows.proofs.fronts.renew_all.Goals as goal

pub loop-k-init : goal.loop-k-init
loop-k-init c =
    let d = c.args in
    let s = d.scoring.now in
    (omega arith, renewed_none d.sets.now s.width s.weights.now d.sizes.now s.start d.live.now (coded d.rows.now))

pub loop-k-preserved : goal.loop-k-preserved
loop-k-preserved c =
    let d = c.args in
    let s = d.scoring.now in
    let l = c.loop-k in
    let at = c.from-slot.ensures ∙ c.get_or.ensures in
    let next = renewed_next d.sets.now s.width s.weights.now d.sizes.now s.start d.live.now (coded d.rows.now) l.k (coded l.rows) in (
      omega arith,
      elim c.if-not-still.branch [
        | then-not-still w ↦ next _ l.invariant.1
            (renewed_found d.sets.now s.width s.weights.now d.sizes.now s.start d.live.now l.k (coded l.rows) c.from-slot.result _ c.still.result
            at c.at.ensures c.still.ensures (not-true _ (not_from_false _ w.if-not-still.true)) _ _ w.row-found.ensures
            (ap coded w.rows-is ∙ ap coded w.put.ensures ∙ coded-set l.rows _ _))
        | else-not-still w ↦ next _ l.invariant.1
            (ap coded w.rows-is ∙ renewed_stands d.sets.now s.width s.weights.now d.sizes.now s.start d.live.now l.k (coded l.rows) c.from-slot.result _ c.still.result
            at c.at.ensures c.still.ensures (not-false _ (not_from_true _ w.if-not-still.false)))
      ],
    )

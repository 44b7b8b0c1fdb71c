use Rattle.subset.specs.Fills.{found_few, fill_start, fill_next}
use Rattle.masks.specs.Tables.{work_at}
use Rattle.subset.specs.Walk.{best_at, split_at}
use native.Mathlib.Omega.{arith}
use lib.ListN.{length, length-set}
use mathlib.Core.Path.{◌∙◌}
use Rattle.subset.proofs.fill.Goals as goal

pub loop-s-init : goal.loop-s-init
loop-s-init c = let a = c.args in (omega arith, omega arith, c.requires.0, c.requires.1, fill_start (best_at a.cost.now) (split_at a.part.now) (work_at a.tables.now.kept.now a.tables.now.planes.weights.now) (length a.tables.now.bits.now) a.limit)

pub overflow_add-tried : goal.overflow_add-tried
overflow_add-tried c = let a = c.args in let l = c.loop-s in
    omega (arith, l.invariant.1, c.len-s-end.ensures, found_few (best_at l.cost) (work_at a.tables.now.kept.now a.tables.now.planes.weights.now) (length a.tables.now.bits.now) a.limit l.s c.search_mask-e.result c.search_mask-e.ensures (omega (arith, c.len-s-end.ensures)))

pub loop-s-preserved : goal.loop-s-preserved
loop-s-preserved c = let a = c.args in let l = c.loop-s in let e = c.search_mask-e.result in (
  omega arith,
  omega (arith, l.invariant.1, found_few (best_at l.cost) (work_at a.tables.now.kept.now a.tables.now.planes.weights.now) (length a.tables.now.bits.now) a.limit l.s e c.search_mask-e.ensures (omega (arith, c.len-s-end.ensures))),
  length-set l.cost l.s _ ∙ l.invariant.2,
  length-set l.part l.s _ ∙ l.invariant.3,
  fill_next l.cost l.part (work_at a.tables.now.kept.now a.tables.now.planes.weights.now) (length a.tables.now.bits.now) a.limit l.s l.tried e (omega (arith, l.invariant.2)) (omega (arith, l.invariant.3))
      (omega arith) (omega (arith, c.len-s-end.ensures)) c.search_mask-e.ensures l.invariant.4,
)

use Rattle.masks.specs.Keeps.{keep_next}
use native.Mathlib.Omega.{arith}
use lib.ListN.{length}
use Rattle.masks.proofs.keep_sets_by.Goals as goal

pub loop-s-preserved : goal.loop-s-preserved
loop-s-preserved c = let a = c.args in let l = c.loop-s in (
  omega arith,
  keep_next a.united.now a.planes.now.weights.now (length a.united.now) l.kept l.bits l.s c.weigh.result c.combine-outside.result c.combine-row.result (omega arith) l.invariant.1
      c.combine-outside.ensures c.combine-row.ensures c.weigh.ensures.0,
)

use Rattle.subset.specs.Walking.{walk_start, walk_step}
use Rattle.masks.specs.Tables.{work_at}
use Rattle.subset.specs.Walk.{best_at}
use lib.Bits.{and_le_l}
use native.Mathlib.Omega.{arith}
use lib.ListN.{length}
use Prim.Native.Nat.{◌-◌}
use mathlib.Core.Path.{◌∙◌}
use Rattle.subset.proofs.cheapest_split.Goals as goal

pub loop-sub-init : goal.loop-sub-init
loop-sub-init c = let a = c.args in (omega arith, walk_start (best_at a.cost.now) (work_at a.tables.now.kept.now a.tables.now.planes.weights.now) (length a.tables.now.bits.now) a.low a.rest (omega arith))

pub loop-sub-preserved : goal.loop-sub-preserved
loop-sub-preserved c = let a = c.args in let l = c.loop-sub in (omega (arith, and_le_l (l.sub - 1) a.rest), walk_step (best_at a.cost.now) (work_at a.tables.now.kept.now a.tables.now.planes.weights.now) (length a.tables.now.bits.now) a.low a.rest l.found c.unwrap_or-found.result l.sub l.invariant.1 c.if-sub-eq0.false (c.unwrap_or-found.ensures ∙ c.consider.ensures))

use Rattle.live.specs.Merged.{merged_next}
use Rattle.slots.specs.Slots.{written_none, with_set_end}
use native.Mathlib.Omega.{arith}
use Rattle.live.proofs.put_merged.Goals as goal

pub loop-k-init : goal.loop-k-init
loop-k-init c = (omega arith, written_none _ _ _)

pub loop-k-preserved : goal.loop-k-preserved
loop-k-preserved c = let d = c.args in
    let l = c.loop-k in (
      omega arith,
      merged_next d.sets.now d.w d.x d.y d.z (λ j. (c.slice_known-1.given j).fits) l.k c.merged_word-v.result _ _ (omega arith) l.invariant.1 c.merged_word-v.ensures c.put.ensures,
    )

pub returns : goal.returns
returns c = let d = c.args in with_set_end d.sets.now d.w d.z _ _ _ (omega arith) c.loop-k.invariant.1

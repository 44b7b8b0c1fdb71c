use Rattle.slots.specs.Writes.{all_none, all_next}
use Rattle.std.proofs.Common.{arith, ◌∙◌}
use Rattle.slots.proofs.put_all.Goals as goal

pub loop-k-init : goal.loop-k-init
loop-k-init c =
    let d = c.args in
    (omega arith, all_none d.words.now d.w d.s d.list.now d.base (λ j. (c.slice_known-1.given j).fits))

pub loop-k-preserved : goal.loop-k-preserved
loop-k-preserved c =
    let d = c.args in (
      omega arith,
      all_next d.words.now d.w d.s d.list.now d.base c.loop-k.k
          c.from.result _ _ c.loop-k.invariant.1
          (c.from.ensures ∙ c.get_or.ensures) c.insert.ensures,
    )

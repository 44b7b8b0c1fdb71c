use Rattle.std.proofs.Common.{refl, arith}
use Rattle.live.specs.Holders.{side_none, side_next, side_end}
use Rattle.live.proofs.fronts.put_holders.Goals as goal

pub loop-k-init : goal.loop-k-init
loop-k-init c = let d = c.args in (omega arith, side_none d.sets.now d.w d.live.now d.m)

pub loop-k-preserved : goal.loop-k-preserved
loop-k-preserved c =
    let d = c.args in
    let l = c.loop-k in
    let h = c.count_holders-held in (
      omega arith,
      side_next d.sets.now d.w d.live.now d.m l.k h.result.two h.result.three c.word-staying.result l.sets _ _ (omega arith) l.invariant.1
          h.ensures.two h.ensures.three c.word-staying.ensures (omega arith) refl c.put_words.ensures,
    )

pub returns : goal.returns
returns c = let d = c.args in side_end d.sets.now d.w d.live.now d.m c.loop-k.k _ (omega arith) c.loop-k.invariant.1

use Rattle.live.specs.Holders.{word_none, word_next, word_first}
use native.Mathlib.Omega.{arith}
use Prim.Native.Nat.{ℕ, ◌+◌, ◌*◌}
use mathlib.Core.Path.{◌≡◌, ap, ◌∙◌}
use lib.ListN.{get_or}
use Rattle.live.proofs.count_holders.Goals as goal

pub loop-slot-init : goal.loop-slot-init
loop-slot-init c = (word_none _ _ _ _ 0, word_none _ _ _ _ 1, word_none _ _ _ _ 2)

pub loop-slot-preserved : goal.loop-slot-preserved
loop-slot-preserved c = let d = c.args in
    let l = c.loop-slot in
    let x = c.word-x.result in
    let e : x ≡ get_or d.sets.now (get_or d.live.now l.slot-index 0 * d.w + d.k) 0 = c.word-x.ensures ∙ ap (λ (i : ℕ). get_or d.sets.now (i * d.w + d.k) 0) c.from.ensures in (
      word_first d.sets.now d.w d.live.now d.k l.slot-index l.one x l.invariant.0 e (omega arith),
      word_next d.sets.now d.w d.live.now d.k 1 l.slot-index l.one l.two x l.invariant.0 l.invariant.1 e (omega arith),
      word_next d.sets.now d.w d.live.now d.k 2 l.slot-index l.two l.three x l.invariant.1 l.invariant.2 e (omega arith),
    )

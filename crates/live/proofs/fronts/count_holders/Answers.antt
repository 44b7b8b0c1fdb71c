use Rattle.std.proofs.Common.{ℕ, ◌≡◌, ◌+◌, ◌*◌, ap, ◌∙◌, arith, get_or}
use Rattle.live.specs.Holders.{word_none, word_next, word_first}
use Rattle.live.proofs.fronts.count_holders.Goals as goal

pub loop-i-init : goal.loop-i-init
loop-i-init c = (omega arith, word_none _ _ _ _ 0, word_none _ _ _ _ 1, word_none _ _ _ _ 2)

pub loop-i-preserved : goal.loop-i-preserved
loop-i-preserved c =
    let d = c.args in
    let l = c.loop-i in
    let x = c.word-x.result in
    let s = c.from-slot.ensures ∙ c.get_or.ensures in
    let e : x ≡ get_or d.sets.now (get_or d.live.now l.i 0 * d.w + d.k) 0 = c.word-x.ensures ∙ ap (λ (i : ℕ). get_or d.sets.now (i * d.w + d.k) 0) s in (
      omega arith,
      word_first d.sets.now d.w d.live.now d.k l.i l.one x l.invariant.1 e (omega arith),
      word_next d.sets.now d.w d.live.now d.k 1 l.i l.one l.two x l.invariant.1 l.invariant.2 e (omega arith),
      word_next d.sets.now d.w d.live.now d.k 2 l.i l.two l.three x l.invariant.2 l.invariant.3 e (omega arith),
    )

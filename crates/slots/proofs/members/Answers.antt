use Rattle.slots.specs.Rising.{walk_next, walk_end}
use native.Mathlib.Omega.{arith}
use Rattle.slots.proofs.members.Goals as goal

pub loop-k-preserved : goal.loop-k-preserved
loop-k-preserved c =
    let d = c.args in
    let l = c.loop-k in (
      omega arith,
      walk_next d.words.now d.w d.s d.out.now d.at l.out _ l.n c.members_word-n.result l.k
          c.get_or-x.result c.get_or-x.ensures
          c.members_word-n.ensures.0 c.members_word-n.ensures.2 l.invariant.1,
      omega (arith, c.members_word-n.ensures.1, l.invariant.2),
    )

pub returns : goal.returns
returns c =
    let d = c.args in
    let l = c.loop-k in walk_end d.words.now d.w d.s d.out.now d.at l.out l.n l.k (omega arith) l.invariant.1

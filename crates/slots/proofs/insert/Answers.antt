use Prim.Native.Nat.{◌%◌}
use Rattle.bits.specs.Bit.{one_shl}
use Rattle.slots.specs.Writes.{insert_is, insert_none}
use native.Mathlib.Omega.{arith}
use mathlib.Core.Path.{◌∙◌}
use Rattle.slots.proofs.insert.Goals as goal

pub returns-then-w-i : goal.returns-then-w-i
returns-then-w-i c =
    let d = c.args in insert_none d.words.now d.w d.s d.i (λ j. (c.slice_known-1.given j).fits) c.if-w-i.true

pub returns : goal.returns
returns c =
    let d = c.args in
    c.put.ensures
    ∙ rw (c.get_or-x.ensures, one_shl (d.i % 64) (omega arith))
    (insert_is d.words.now d.w d.s d.i (λ j. (c.slice_known-1.given j).fits) (omega arith))

use borrow.Author.Rules.{rules}
use mathlib.Core.Bool.{◌||◌}
use lib.Bits.{bit_or, or_lt}
use Rattle.bits.specs.Digits.{or_digits}
use Rattle.slots.specs.Slots.{written_none, with_set_end}
use Rattle.slots.specs.Writes.{mix_next}
use native.Mathlib.Omega.{arith}
use Prim.Native.Nat.{◌+◌, ◌*◌}
use mathlib.Core.Path.{refl}
use Rattle.nodesets.proofs.join.Goals as goal

pub loop-k-init : goal.loop-k-init
loop-k-init c = (omega arith, refl, written_none _ _ _)

pub loop-k-preserved : goal.loop-k-preserved
loop-k-preserved c = let d = c.args in let l = c.loop-k in (omega arith, search rules, mix_next bit_or (λ x y. x || y) or_digits (λ x y. or_lt 64 x y) d.sets.now d.w d.a d.b d.c l.k _ _ _ _ (omega arith) l.invariant.2 (omega (arith, c.slice_known-1.given (d.a * d.w + l.k))) (omega (arith, c.slice_known-in-loop-k-1.given (d.b * d.w + l.k))) refl refl refl)

pub returns : goal.returns
returns c = with_set_end _ _ _ _ _ _ (omega arith) c.loop-k.invariant.2

use native.Mathlib.Numerals.{add-one}
use native.Mathlib.Nat.{two-pow-succ}
use Rattle.bits.specs.Splits.{most_none, most_step, most_small}
use native.Mathlib.Omega.{arith}
use mathlib.Core.Path.{refl, sym}
use Rattle.bits.proofs.most_splits.Goals as goal

pub loop-k-init : goal.loop-k-init
loop-k-init c = (omega arith, sym most_none, refl)

pub overflow_mul-splits : goal.overflow_mul-splits
overflow_mul-splits c = let l = c.loop-k in omega (arith, l.invariant.1, most_small l.k (omega arith))

pub overflow_add-splits : goal.overflow_add-splits
overflow_add-splits c = let l = c.loop-k in omega (arith, l.invariant.1, most_small l.k (omega arith))

pub loop-k-preserved : goal.loop-k-preserved
loop-k-preserved c =
    let l = c.loop-k in (omega arith, omega (arith, most_step l.k), rw (add-one l.k) (omega (arith, l.invariant.2, two-pow-succ l.k)))

use Rattle.slicing.specs.Words.{slots_small, slots_next}
use native.Mathlib.Omega.{arith}
use mathlib.Core.Path.{refl}
use Rattle.slicing.proofs.tallies.add_slots.Goals as goal

pub add_word-requires : goal.add_word-requires
add_word-requires c = let l = c.loop-k in (omega (arith, l.invariant.1.same), (λ j. omega (arith, slots_small c.args.sets.now c.args.w c.args.a c.args.b c.args.amount c.args.sums.now 2305843009213693952 l.k l.sums c.requires.3 l.invariant.1 j)), omega arith)

pub loop-k-preserved : goal.loop-k-preserved
loop-k-preserved c = let l = c.loop-k in (omega arith, slots_next c.args.sets.now c.args.w c.args.a c.args.b c.args.amount c.args.sums.now l.k l.sums _ _ _ refl refl l.invariant.1 c.add_word.ensures)

use Rattle.start.specs.Leaves.{outside_next}
use native.Mathlib.Omega.{arith}
use Rattle.start.proofs.put_outside.Goals as goal

pub loop-l-preserved : goal.loop-l-preserved
loop-l-preserved c = let k = c.loop-l in (
  omega arith,
  (λ base e. outside_next c.args.w c.args.counts.now c.args.legs.now base c.args.outputs.now k.l k.sets _ (omega (arith, c.requires.1)) (k.invariant.1 base e) c.put_other.ensures),
)

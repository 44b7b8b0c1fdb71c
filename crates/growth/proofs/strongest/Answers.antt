use Rattle.partition.specs.Folds.{range_next}
use Rattle.growth.specs.Links.{strong_in, offered_in}
use Rattle.spec.specs.Floats.{whole_float}
use Rattle.std.specs.Prelude.{None}
use lib.Ieee.{of_bits, of_int, round, neg}
use native.Mathlib.Omega.{arith}
use mathlib.Core.Path.{refl}
use Rattle.growth.proofs.strongest.Goals as goal

pub loop-u-init : goal.loop-u-init
unfolding of_bits of_int round neg
loop-u-init c = (omega arith, refl, tt)

pub loop-u-preserved : goal.loop-u-preserved
loop-u-preserved c = let a = c.args in let l = c.loop-u in (omega (arith, c.loop-u-test.true), range_next (offered_in a.part.now a.links.now) (strong_in (neg (whole_float 1)) None a.draws.now) (strong_in l.best.link l.best.vertex l.draws) _ l.u l.invariant.1 c.offer-best.ensures.offered, c.offer-best.ensures.below)

use Rattle.walk.specs.Order.{few_order}
use native.Mathlib.Omega.{arith}
use Rattle.walk.proofs.post_order.Goals as goal

pub returns-then-n-lt2 : goal.returns-then-n-lt2
returns-then-n-lt2 c = let a = c.args in (omega arith, few_order a.kids.now a.n a.out.now c.if-n-lt2.true c.requires.1)

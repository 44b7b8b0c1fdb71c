use Rattle.reconf.specs.Again.{visits_again}
use native.Mathlib.Omega.{arith}
use Rattle.reconf.proofs.visit.Goals as goal

pub returns-clause-visits : goal.returns-clause-visits
returns-clause-visits c = visits_again c.reconf_listed-made.ensures (omega (arith, c.requires.node)) c.requires.ready.0 c.requires.standing c.price.ensures.held

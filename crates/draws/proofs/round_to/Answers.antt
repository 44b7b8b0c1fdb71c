use Rattle.std.proofs.Common.{ap}
use lib.Ieee.{Float, mul, binary64}
use Rattle.spec.specs.Floats.{round_to}
use Rattle.draws.proofs.round_to.Goals as goal

pub returns : goal.returns
unfolding round_to
returns c = ap (λ (z : Float). mul binary64 z c.args.q) c.round_away.ensures

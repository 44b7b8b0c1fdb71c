use native.Mathlib.Omega.{arith}
use Prim.Native.Nat.{◌≤◌}
use mathlib.Core.Path.{refl}
use lib.ListN.{length}
use Rattle.bisection.specs.Zeros.{zeros_cleared}
use Rattle.bisection.proofs.wipe.zero.Goals as goal

pub returns : goal.returns
returns c =
    let m = c.min-n in
    let ws = c.args.words.now in
    let b : m.result ≤ length ws = omega (arith, m.ensures) in
    zeros_cleared ws c.clear.new.words c.zero_rest.new.rest m.result _ b c.clear.ensures refl c.zero_rest.ensures

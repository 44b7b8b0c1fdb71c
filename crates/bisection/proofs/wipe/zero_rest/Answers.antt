use native.Mathlib.Omega.{arith}
use Prim.Native.Nat.{◌≤◌}
use mathlib.Core.Path.{refl, ap, ◌∙◌}
use lib.ListN.{length}
use lib.Seq.{length-take-le}
use Rattle.bisection.specs.Zeros.{zeros, zeros_behind}
use Rattle.bisection.proofs.wipe.zero_rest.Goals as goal

pub returns-else-any_set : goal.returns-else-any_set
returns-else-any_set c =
    let m = c.min-m in
    let w = c.args.rest.now in
    let b : m.result ≤ length w = omega (arith, m.ensures) in
    let e = c.any_set.ensures c.if-any_set.false in
    zeros_behind w c.fill-else-any_set.new.list m.result _ b (e ∙ ap zeros (length-take-le m.result w b)) refl c.fill-else-any_set.ensures

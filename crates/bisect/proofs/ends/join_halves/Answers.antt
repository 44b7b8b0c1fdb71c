use Rattle.std.proofs.Common.{rules, ◌≡◌, refl, arith}
use Rattle.std.specs.Prelude.{Err}
use Rattle.bisect.specs.Cases.{is_right, is_node}
use Rattle.bisect.proofs.ends.join_halves.Goals as goal

pub returns-in_err-top : goal.returns-in_err-top
returns-in_err-top c =
    let r = c.in_err-top.field-0.0 in
    let e : c.from_residual.result ≡ Err r = search rules in
    is_right r (search rules) e

pub returns : goal.returns
returns c = is_node c.in_ok-top.top (search rules) (omega arith) refl c.put_node.ensures

use borrow.Author.Rules.{rules}
use Rattle.fields.specs.Fields.{taken_not, weights_fit, weights_decide, weights_taken}
use Rattle.network.specs.Record.{net_of}
use Rattle.std.proofs.Common.{Err}
use native.Mathlib.Omega.{arith}
use mathlib.Core.Path.{◌≡◌, sym, ◌∙◌}
use Rattle.fields.proofs.take_weights.Goals as goal

pub returns-in_err-check_weights : goal.returns-in_err-check_weights
returns-in_err-check_weights c = let k = c.in_err-check_weights.field-0.0 in
    let e : c.from_residual.result ≡ Err k = search rules in
    λ x y z. rw e (taken_not _ _ (weights_decide c.args.payload.now) k (sym c.in_err-check_weights.was ∙ c.check_weights.ensures))

pub returns : goal.returns
unfolding net_of
returns c = let p = c.args.payload.now in
    let e = sym c.in_ok-check_weights.was ∙ c.check_weights.ensures in
    λ x y z. rw (c.bare.ensures, c.put_bytes.ensures) (weights_taken p c.args.weights.now x y z (omega (arith, c.requires, weights_fit p e)) e)

use borrow.Author.Rules.{rules}
use Rattle.fields.specs.Fields.{taken_not, outputs_decide, outputs_taken, indices}
use Rattle.fields.specs.Scans.{record_in}
use Rattle.network.specs.Record.{net_of}
use Rattle.std.proofs.Common.{Err}
use mathlib.Core.Path.{◌≡◌, sym, ◌∙◌}
use Rattle.fields.proofs.take_outputs.Goals as goal

pub returns-in_err-check_outputs : goal.returns-in_err-check_outputs
returns-in_err-check_outputs c = let k = c.in_err-check_outputs.field-0.0 in
    let e : c.from_residual.result ≡ Err k = search rules in
    λ x y z h. let n = record_in c.args.counts x y z c.args.outputs.now in
    rw e (taken_not _ _ (outputs_decide c.args.payload.now (net_of n) _ (indices n)) k (sym c.in_err-check_outputs.was ∙ c.check_outputs.ensures))

pub returns : goal.returns
unfolding net_of
returns c = let p = c.args.payload.now in
    let e = sym c.in_ok-check_outputs.was ∙ c.check_outputs.ensures in
    λ x y z h. let n = record_in c.args.counts x y z c.args.outputs.now in
    rw (c.bare.ensures, c.place.ensures) (outputs_taken n h p c.requires e)

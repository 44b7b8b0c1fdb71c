use borrow.Author.Rules.{rules}
use Rattle.fields.specs.Fields.{taken_not, flags_taken, flags_decide, indices}
use Rattle.fields.specs.Scans.{tree_of, record_in}
use Rattle.network.specs.Record.{net_of}
use Rattle.std.proofs.Common.{Err}
use mathlib.Core.Path.{◌≡◌, sym, ◌∙◌}
use Rattle.fields.proofs.take_flags.Goals as goal

pub returns-in_err-check_flags : goal.returns-in_err-check_flags
returns-in_err-check_flags c = let k = c.in_err-check_flags.field-0.0 in
    let e : c.from_residual.result ≡ Err k = search rules in
    λ x y z o h. let n = record_in c.args.counts x y z o in
    rw e (taken_not _ _ (flags_decide c.args.payload.now (net_of n) (tree_of c.args.tree) _ (indices n)) k (sym c.in_err-check_flags.was ∙ c.check_flags.ensures))

pub returns : goal.returns
returns c = λ x y z o h.
    flags_taken (record_in c.args.counts x y z o) h c.args.payload.now (tree_of c.args.tree) (sym c.in_ok-check_flags.was ∙ c.check_flags.ensures)

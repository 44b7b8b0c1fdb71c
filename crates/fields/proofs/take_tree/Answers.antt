use borrow.Author.Rules.{rules}
use Rattle.fields.specs.Fields.{taken_not, tree_taken, tree_decide, leaves}
use Rattle.fields.specs.Scans.{record_in}
use Rattle.network.specs.Record.{net_of}
use Rattle.std.proofs.Common.{Err}
use mathlib.Core.Path.{◌≡◌, sym, ◌∙◌}
use Rattle.fields.proofs.take_tree.Goals as goal

pub returns-in_err-check_tree : goal.returns-in_err-check_tree
returns-in_err-check_tree c = let k = c.in_err-check_tree.field-0.0 in
    let e : c.from_residual.result ≡ Err k = search rules in
    λ x y z o h. let n = record_in c.args.counts x y z o in
    rw e (taken_not _ _ (tree_decide c.args.payload.now (net_of n) _ (leaves n)) k (sym c.in_err-check_tree.was ∙ c.check_tree.ensures))

pub returns : goal.returns
returns c = λ x y z o h.
    tree_taken (record_in c.args.counts x y z o) h c.args.payload.now (sym c.in_ok-check_tree.was ∙ c.check_tree.ensures)

use borrow.Author.Rules.{rules}
use Rattle.netwrite.specs.Answers.{network_asks, tree_asks, ask_asks, written, buffer_is, not_written, buffer_stays}
use Rattle.netwrite.specs.Contents.{parts_of}
use Rattle.std.proofs.Common.{Err}
use mathlib.Core.Path.{◌≡◌, sym, ◌∙◌}
use Rattle.netwrite.proofs.write_accepted.Goals as goal

pub returns-in_err-check-clause-answer : goal.returns-in_err-check-clause-answer
returns-in_err-check-clause-answer c = let k = c.in_err-check.field-0.0 in
    let e : c.from_residual.result ≡ Err k = search rules in
    e ∙ sym (not_written (parts_of c.args.parts.now) c.args.cursor c.args.out.now k (sym c.in_err-check.was ∙ c.check.ensures))

pub returns-in_err-check-clause-buffer : goal.returns-in_err-check-clause-buffer
returns-in_err-check-clause-buffer c = let k = c.in_err-check.field-0.0 in
    buffer_stays (parts_of c.args.parts.now) c.args.cursor c.args.out.now k (sym c.in_err-check.was ∙ c.check.ensures)

pub put_network-next-requires : goal.put_network-next-requires
put_network-next-requires c =
    (network_asks (parts_of c.args.parts.now) c.args.cursor c.args.out.now (sym c.in_ok-check.was ∙ c.check.ensures)).1

pub put_tree-last-requires : goal.put_tree-last-requires
put_tree-last-requires c =
    tree_asks (parts_of c.args.parts.now) c.args.cursor c.args.out.now (sym c.in_ok-check.was ∙ c.check.ensures) c.put_network-next.ensures

pub put_ask-requires : goal.put_ask-requires
put_ask-requires c =
    ask_asks (parts_of c.args.parts.now) c.args.cursor c.args.out.now (sym c.in_ok-check.was ∙ c.check.ensures) c.put_network-next.ensures c.put_tree-last.ensures

pub returns-clause-answer : goal.returns-clause-answer
returns-clause-answer c =
    written (parts_of c.args.parts.now) c.args.cursor c.args.out.now (sym c.in_ok-check.was ∙ c.check.ensures) c.put_network-next.ensures c.put_tree-last.ensures c.put_ask.ensures

pub returns-clause-buffer : goal.returns-clause-buffer
returns-clause-buffer c =
    buffer_is (parts_of c.args.parts.now) c.args.cursor c.args.out.now (sym c.in_ok-check.was ∙ c.check.ensures) c.put_network-next.ensures c.put_tree-last.ensures c.put_ask.ensures

use borrow.Author.Rules.{rules}
use Rattle.netwrite.specs.Answers.{network_refused, buffer_kept}
use Rattle.netwrite.specs.Contents.{kids_of}
use Rattle.fields.specs.Scans.{ask_of}
use Rattle.network.specs.Record.{net_of}
use Rattle.std.proofs.Common.{Err}
use mathlib.Core.Path.{◌≡◌, sym, ◌∙◌}
use Rattle.netfile.proofs.write_network.Goals as goal

pub returns-in_err-network-clause-answer : goal.returns-in_err-network-clause-answer
returns-in_err-network-clause-answer c = let a = c.args in
    let k = c.in_err-network.field-0.0 in
    let e : c.from_residual.result ≡ Err k = search rules in
    e ∙ sym (network_refused (record { network = net_of a.network.now; tree = kids_of a.tree; ask = ask_of a.ask }) a.cursor a.out.now k c.in_err-network.ensures.err)

pub returns-in_err-network-clause-buffer : goal.returns-in_err-network-clause-buffer
returns-in_err-network-clause-buffer c = let a = c.args in
    buffer_kept (record { network = net_of a.network.now; tree = kids_of a.tree; ask = ask_of a.ask }) a.cursor a.out.now c.in_err-network.field-0.0 c.in_err-network.ensures.err

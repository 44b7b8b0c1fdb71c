use borrow.Author.Rules.{rules}
use Rattle.netwrite.specs.Answers.{network_refused, buffer_kept}
use Rattle.netwrite.specs.Contents.{contents_of}
use Rattle.std.proofs.Common.{Err}
use mathlib.Core.Path.{◌≡◌, sym, ◌∙◌}
use Rattle.netwrite.proofs.write.Goals as goal

pub returns-in_err-network-clause-answer : goal.returns-in_err-network-clause-answer
returns-in_err-network-clause-answer c = let a = c.args in
    let k = c.in_err-network.field-0.0 in
    let e : c.from_residual.result ≡ Err k = search rules in
    e ∙ sym (network_refused (contents_of a.counts.0 a.counts.1 a.counts.2 a.weights.now a.leg_counts.now a.legs.now a.outputs.now a.tree a.ask) a.cursor a.out.now k c.in_err-network.ensures.err)

pub returns-in_err-network-clause-buffer : goal.returns-in_err-network-clause-buffer
returns-in_err-network-clause-buffer c = let a = c.args in
    buffer_kept (contents_of a.counts.0 a.counts.1 a.counts.2 a.weights.now a.leg_counts.now a.legs.now a.outputs.now a.tree a.ask) a.cursor a.out.now c.in_err-network.field-0.0 c.in_err-network.ensures.err

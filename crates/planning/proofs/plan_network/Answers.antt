use borrow.Author.Rules.{rules}
use Rattle.std.proofs.Common.{◌≡◌, sym, Err, Ok}
use Rattle.planning.specs.Stages.{answers_at, answers_as}
use Rattle.netfile.specs.Writer.{ask_handed}
use Rattle.planning.proofs.plan_network.Goals as goal

pub returns-in_err-start : goal.returns-in_err-start
returns-in_err-start c =
    let a = c.args in
    let r = c.in_err-start.field-0.0 in
    let e : c.from_residual.result ≡ Err r = search rules in
    answers_at (sym e) (c.start.ensures.refuses c.in_err-start.was (ask_handed a.given.ask a.flags.now) a.flags.now)

pub returns-in_err-counts : goal.returns-in_err-counts
returns-in_err-counts c =
    let a = c.args in
    let r = c.in_err-counts.field-0.0 in
    let e : c.from_residual-in_err-counts.result ≡ Err r = search rules in
    let z : c.start.result ≡ Ok tt = search rules in
    answers_as (c.start.ensures.goes z (ask_handed a.given.ask a.flags.now)) (answers_at (sym e) (c.improve.ensures.refuses c.in_err-counts.was a.flags.now))

pub slice-requires : goal.slice-requires
slice-requires c = (c.requires.0, (c.improve.ensures.goes c.in_ok-counts.was).0, c.requires.1)

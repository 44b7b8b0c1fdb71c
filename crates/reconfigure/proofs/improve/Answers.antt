use borrow.Author.Rules.{rules}
use Rattle.std.proofs.Common.{◌≡◌, refl, length, Err}
use Rattle.spec.specs.declared.Refusal.TheVariants.{TooLarge}
use Rattle.network.specs.Record.{net_of}
use Rattle.walk.specs.Entry.{network_quiet}
use Rattle.reconfigure.specs.Checks.{call_large, call_refused, untouched_call}
use Rattle.reconfigure.proofs.improve.Goals as goal

pub returns-then-ask-gt255 : goal.returns-then-ask-gt255
returns-then-ask-gt255 c = let a = c.args in let N = net_of a.network.now in
    untouched_call N a.ask.now.k a.ask.now.passes a.ask.now.limit a.ask.now.flags.now a.tree.now a.ws.now TooLarge (call_large N a.ask.now.k a.ask.now.passes a.ask.now.limit a.ask.now.flags.now a.tree.now (length a.ws.now) c.if-ask-gt255.true) refl

pub returns-in_err-accepted : goal.returns-in_err-accepted
returns-in_err-accepted c = let a = c.args in let N = net_of a.network.now in
    let r = c.in_err-accepted.field-0.0 in
    let e : c.from_residual.result ≡ Err r = search rules in
    rw e (untouched_call N a.ask.now.k a.ask.now.passes a.ask.now.limit a.ask.now.flags.now a.tree.now a.ws.now r (call_refused N a.ask.now.k a.ask.now.passes a.ask.now.limit a.ask.now.flags.now a.tree.now (length a.ws.now) c.if-ask-gt255.false r c.in_err-accepted.ensures.err) (network_quiet N r c.in_err-accepted.ensures.err))

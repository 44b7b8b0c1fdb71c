use Rattle.spec.specs.declared.Refusal.TheVariants.{ShortBuffer}
use Rattle.spec.specs.Memory.{cleared}
use Rattle.spec.specs.Calls.{improve_words}
use Rattle.network.specs.Views.{net_in}
use Rattle.walk.specs.Entry.{lent_cleared}
use Rattle.reconfigure.specs.Checks.{stated_is, shorter, as_long, call_short, call_rest, untouched_call, rest_call_lem, rest_same, answered_as}
use mathlib.Core.Path.{◌≡◌, refl, ap, ◌∙◌}
use lib.ListN.{length}
use Rattle.reconfigure.proofs.improve_of.Goals as goal

pub returns-then-ws-words : goal.returns-then-ws-words
returns-then-ws-words c = let a = c.args in let N = net_in a.network.now in
    untouched_call N a.ask.now.k a.ask.now.passes a.ask.now.limit a.ask.now.flags.now a.tree.now a.ws.now ShortBuffer
    (call_short N a.ask.now.k a.ask.now.passes a.ask.now.limit a.ask.now.flags.now a.tree.now (length a.ws.now) c.requires a.network.now.holds.passed (shorter (length a.ws.now) (stated_is a.ask.now.k c.clamp-k.result c.stated-words.result c.clamp-k.ensures.0 c.stated-words.ensures) c.if-ws-words.true)) refl

pub returns : goal.returns
returns c = let a = c.args in let N = net_in a.network.now in let w = c.stated-words.result in let y = c.improve_tree-answer.new.ws in
    let s = stated_is a.ask.now.k c.clamp-k.result w c.clamp-k.ensures.0 c.stated-words.ensures in
    let z : c.clear.new.words ≡ cleared a.ws.now (improve_words a.ask.now.k) = c.clear.ensures ∙ lent_cleared a.ws.now y w w c.if-ws-words.false c.improve_tree-answer.auto.ws refl ∙ ap (cleared a.ws.now) s in
    rest_call_lem N a.ask.now.k a.ask.now.passes a.ask.now.limit a.ask.now.flags.now a.tree.now a.ws.now (call_rest N a.ask.now.k a.ask.now.passes a.ask.now.limit a.ask.now.flags.now a.tree.now (length a.ws.now) c.requires a.network.now.holds.passed (as_long (length a.ws.now) s c.if-ws-words.false)) z
    (answered_as (rest_same N a.ask.now.k a.ask.now.passes a.ask.now.limit a.ask.now.flags.now a.tree.now a.ws.now c.clamp-k.result a.ask.now.limit c.clamp-k.ensures.0 refl) c.improve_tree-answer.ensures)

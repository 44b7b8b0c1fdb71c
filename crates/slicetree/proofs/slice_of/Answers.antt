use borrow.Author.Rules.{rules}
use Rattle.std.proofs.Common.{◌≡◌, ◌≤◌, ◌∙◌, refl, ap, length, take, arith}
use Rattle.spec.specs.Memory.{cleared}
use Rattle.walk.specs.Entry.{lent_cleared}
use Rattle.network.specs.Views.{net_in, in_indices}
use Rattle.slicetree.specs.Answers.{few_words, few_flags, by_rest, slices_accepted}
use Rattle.slicetree.proofs.slice_of.Goals as goal

pub returns-then-ws-words : goal.returns-then-ws-words
returns-then-ws-words c =
    let a = c.args in
    let n = a.network.now in
    slices_accepted (net_in n) a.improving a.target a.tree.now a.flags.now a.ws.now n.holds.passed
    (few_words (net_in n) a.improving a.target a.tree.now a.flags.now a.ws.now (omega (arith, c.stated-words.ensures, c.if-ws-words.true)))

pub returns-then-flags-network : goal.returns-then-flags-network
returns-then-flags-network c =
    let a = c.args in
    let n = a.network.now in
    slices_accepted (net_in n) a.improving a.target a.tree.now a.flags.now a.ws.now n.holds.passed
    (few_flags (net_in n) a.improving a.target a.tree.now a.flags.now a.ws.now (length n.weights.now) (in_indices n) (omega (arith, c.stated-words.ensures, c.if-ws-words.false)) (omega arith))

pub returns : goal.returns
returns c =
    let a = c.args in
    let n = a.network.now in
    let w = c.stated-words.result in
    let fit : w ≤ length a.ws.now = c.if-ws-words.false in
    let y = c.slice_in-answer.new.words in
    let ly : length y ≡ length (take w a.ws.now) = search rules in
    slices_accepted (net_in n) a.improving a.target a.tree.now a.flags.now a.ws.now n.holds.passed
    (by_rest (net_in n) a.improving a.target a.tree.now a.flags.now a.ws.now (length n.weights.now) (in_indices n) (omega (arith, c.stated-words.ensures, fit)) (omega arith)
    (c.clear.ensures ∙ lent_cleared a.ws.now y w w fit ly refl ∙ ap (cleared a.ws.now) c.stated-words.ensures) c.slice_in-answer.ensures)

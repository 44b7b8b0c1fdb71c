use Rattle.std.proofs.Common.{rules}
use Rattle.network.specs.Views.{net_in}
use Rattle.spec.specs.Memory.{cleared}
use Rattle.walk.specs.Entry.{lent_cleared}
use Rattle.greedy.specs.Answers.{answer_few_words, answer_few_places, answer_run}
use lib.ListN.{take, length}
use native.Mathlib.Omega.{arith}
use mathlib.Core.Path.{◌≡◌, refl, ap, ◌∙◌}
use Rattle.greedy.proofs.plan_in.Goals as goal

pub returns-then-ws-words : goal.returns-then-ws-words
returns-then-ws-words c = let a = c.args in
    answer_few_words (net_in a.network.now) a.tree.now a.ws.now (omega (arith, c.if-ws-words.true, c.stated-words.ensures))

pub returns-then-tree-saturating_sub : goal.returns-then-tree-saturating_sub
returns-then-tree-saturating_sub c = let a = c.args in
    answer_few_places (net_in a.network.now) a.tree.now a.ws.now (omega (arith, c.if-ws-words.false, c.stated-words.ensures))
    (omega (arith, c.if-tree-saturating_sub.true, c.saturating_sub.ensures, c.leaf_count-n.ensures))

pub returns : goal.returns
returns c = let a = c.args in
    let w = c.stated-words.result in
    let y = c.plan_all-answer.new.words in
    let ly : length y ≡ length (take w a.ws.now) = search rules in
    let z = c.clear.ensures ∙ lent_cleared a.ws.now y w w c.if-ws-words.false ly refl ∙ ap (cleared a.ws.now) c.stated-words.ensures in
    answer_run (net_in a.network.now) a.tree.now a.ws.now (omega (arith, c.if-ws-words.false, c.stated-words.ensures))
    (omega (arith, c.if-tree-saturating_sub.false, c.saturating_sub.ensures, c.leaf_count-n.ensures)) _ z _ c.plan_all-answer.result c.plan_all-answer.ensures

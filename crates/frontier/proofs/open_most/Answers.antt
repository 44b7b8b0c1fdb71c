use Rattle.frontier.specs.Turns.{most_opened}
use Rattle.frontier.specs.Opens.{state, open_found}
use mathlib.Core.Path.{sym, ap, ◌∙◌}
use Rattle.frontier.proofs.open_most.Goals as goal

pub returns-in-Some : goal.returns-in-Some
returns-in-Some c = let a = c.args in let s = state a.members.now a.opened.now a.m in
    most_opened a.kids.now a.works.now a.n s c.most_work.result _ c.most_work.ensures (c.«open».ensures ∙ ap (open_found a.kids.now a.n s) (sym c.in-Some.is))

pub returns-in-None : goal.returns-in-None
returns-in-None c = let a = c.args in let s = state a.members.now a.opened.now a.m in
    most_opened a.kids.now a.works.now a.n s c.most_work.result _ c.most_work.ensures (ap (open_found a.kids.now a.n s) (sym c.in-None.is))

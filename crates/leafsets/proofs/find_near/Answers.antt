use mathlib.Core.Path.{sym, ◌∙◌}
use Rattle.leafsets.specs.Search.{same_words, some_after, some_before}
use Rattle.leafsets.proofs.find_near.Goals as goal

pub returns-in-Some-clause-any : goal.returns-in-Some-clause-any
returns-in-Some-clause-any c =
    let a = c.args in
    let q = c.requires in
    (some_after (same_words a.w a.ws.now a.s) a.lo a.hint a.hi q.2 q.3 c.in-Some.u (sym c.in-Some.is ∙ c.find.ensures)).0

pub returns-in-Some-clause-within : goal.returns-in-Some-clause-within
returns-in-Some-clause-within c =
    let a = c.args in
    let q = c.requires in
    let h = some_after (same_words a.w a.ws.now a.s) a.lo a.hint a.hi q.2 q.3 c.in-Some.u (sym c.in-Some.is ∙ c.find.ensures) in
    (h.1, h.2)

pub returns-clause-any : goal.returns-clause-any
returns-clause-any c =
    let a = c.args in
    let q = c.requires in
    (some_before (same_words a.w a.ws.now a.s) a.lo a.hint a.hi q.2 q.3 c.find-2.result (sym c.in_default.is ∙ c.find.ensures) c.find-2.ensures).0

pub returns-clause-within : goal.returns-clause-within
returns-clause-within c =
    let a = c.args in
    let q = c.requires in
    (some_before (same_words a.w a.ws.now a.s) a.lo a.hint a.hi q.2 q.3 c.find-2.result (sym c.in_default.is ∙ c.find.ensures) c.find-2.ensures).1

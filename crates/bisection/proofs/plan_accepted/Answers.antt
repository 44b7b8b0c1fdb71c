use Rattle.std.proofs.Common.{rules, ◌≡◌, ◌≤◌, arith, refl, sym, subst, ap, ◌∙◌, length}
use Rattle.std.specs.Prelude.{Result, Err, Ok, ℕ}
use Rattle.spec.specs.declared.Refusal.{Refusal}
use Rattle.spec.specs.Memory.{cleared}
use Rattle.walk.specs.Entry.{lent_cleared}
use Rattle.network.specs.Views.{net_in, in_leaves, in_facts}
use Rattle.bisection.specs.Answers.{Answers, answer_few_words, answer_few_places, answer_refused, answer_done}
use Rattle.bisection.proofs.plan_accepted.Goals as goal

pub returns-then-ws-words : goal.returns-then-ws-words
returns-then-ws-words c = let a = c.args in
    answer_few_words (net_in a.network.now) a.imbalance a.cutoff a.draws.now a.tree.now a.ws.now (omega (arith, c.if-ws-words.true, c.stated-words.ensures))

pub returns-then-tree-places : goal.returns-then-tree-places
returns-then-tree-places c = let a = c.args in
    answer_few_places (net_in a.network.now) a.imbalance a.cutoff a.draws.now a.tree.now a.ws.now (omega (arith, c.if-ws-words.false, c.stated-words.ensures)) (omega (arith, c.if-tree-places.true, c.saturating_sub-places.ensures, in_leaves a.network.now))

pub returns-in_err-top : goal.returns-in_err-top
returns-in_err-top c = let a = c.args in let n = a.network.now in
    let stated = c.stated-words in
    let fit : stated.result ≤ length a.ws.now = c.if-ws-words.false in
    let ran = c.bisect_all-built in
    let z = c.wipe.ensures ∙ lent_cleared a.ws.now ran.new.ws stated.result stated.result fit ran.auto.ws refl ∙ ap (cleared a.ws.now) stated.ensures in
    let r = c.in_err-top.field-0.0 in
    let t : ran.result ≡ Err r = search rules in
    let e : c.from_residual.result ≡ Err r = search rules in
    subst (λ (x : Result ℕ Refusal). Answers (net_in n) a.imbalance a.cutoff a.draws.now a.tree.now a.tree.now a.ws.now c.wipe.new.words x) (sym e)
    (answer_refused (net_in n) a.imbalance a.cutoff a.draws.now a.tree.now a.ws.now (omega (arith, fit, stated.ensures)) (omega (arith, c.if-tree-places.false, c.saturating_sub-places.ensures, in_leaves n)) _ z _ _ _ _ (ran.ensures a.draws.now c.new-run.ensures) r t)

pub returns : goal.returns
returns c = let a = c.args in let n = a.network.now in
    let stated = c.stated-words in
    let fit : stated.result ≤ length a.ws.now = c.if-ws-words.false in
    let ran = c.bisect_all-built in
    let z = c.wipe.ensures ∙ lent_cleared a.ws.now ran.new.ws stated.result stated.result fit ran.auto.ws refl ∙ ap (cleared a.ws.now) stated.ensures in
    let t : ran.result ≡ Ok c.in_ok-top.top = search rules in
    answer_done (net_in n) a.imbalance a.cutoff a.draws.now a.tree.now a.ws.now (omega (arith, fit, stated.ensures)) (omega (arith, c.if-tree-places.false, c.saturating_sub-places.ensures, in_leaves n)) _ z _ _ _ _ (ran.ensures a.draws.now c.new-run.ensures)
    c.in_ok-top.top t _ (omega (arith, c.saturating_sub-places.ensures, in_leaves n)) (omega (arith, c.saturating_sub-places.ensures, (in_facts n n.holds).few_leaves)) _ c.copy.ensures _ (omega (arith, c.saturating_sub.ensures, c.left.ensures))

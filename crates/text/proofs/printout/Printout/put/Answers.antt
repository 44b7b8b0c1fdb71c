use borrow.Author.Rules.{rules}
use Rattle.text.specs.Lines.{plan_put}
use Rattle.text.specs.Lists.{printed_from}
use Rattle.steplines.specs.Puts.{puts_as}
use Rattle.steplines.specs.Steps.{steps_from}
use Rattle.spec.specs.Text.{lines_of, step_line, line}
use Prim.Native.Nat.{ℕ}
use mathlib.Core.Path.{◌≡◌, ap}
use mathlib.Core.List.{◌∷◌, []}
use Rattle.text.proofs.printout.Printout.put.Goals as goal

pub returns-clause-written : goal.returns-clause-written
returns-clause-written c = let p = c.args.self.now in
    let l = p.listed in
    let e : c.from.result ≡ p.prices.slice_bits = search rules in
    plan_put (printed_from p.leaf_count l.index_count l.width p.prices l.steps.now l.sets.now p.flags.now p.rebuilt p.tried)
    c.put_head.ensures.written
    (puts_as (ap (λ (k : ℕ). lines_of step_line (steps_from l.steps.now l.sets.now l.width l.index_count k)) c.saturating_sub.ensures) c.put_steps.ensures.written)
    c.put_total.ensures.written c.put_widest.ensures.written c.put_slices.ensures.written
    (puts_as (ap (λ (x : ℕ). line "bits" (x ∷ [])) e) c.put_line.ensures.written)
    c.put_line-2.ensures.written c.put_line-3.ensures.written

use Rattle.subset.specs.Considers.{stays, gains, step_not, step_is}
use Rattle.masks.specs.Tables.{work_at}
use Rattle.subset.specs.Walk.{best_at}
use native.Mathlib.Omega.{arith}
use mathlib.Core.Path.{sym, ap, ◌∙◌}
use Rattle.std.specs.Prelude.{Option}
use Rattle.std.specs.Option.{unwrap_or}
use Rattle.subset.specs.declared.Choice.{Choice}
use Rattle.subset.proofs.consider.Goals as goal

pub returns-then-was-a : goal.returns-then-was-a
returns-then-was-a c = let a = c.args in stays (best_at a.cost.now) (work_at a.tables.now.kept.now a.tables.now.planes.weights.now) a.low a.rest a.sub a.was (omega arith)

pub returns-then-was-a-2 : goal.returns-then-was-a-2
returns-then-was-a-2 c = let a = c.args in stays (best_at a.cost.now) (work_at a.tables.now.kept.now a.tables.now.planes.weights.now) a.low a.rest a.sub a.was (omega arith)

pub returns-in_err-step : goal.returns-in_err-step
returns-in_err-step c = let a = c.args in
    ap (λ (o : Option Choice). unwrap_or o a.was) c.from_residual.ensures
    ∙ stays (best_at a.cost.now) (work_at a.tables.now.kept.now a.tables.now.planes.weights.now) a.low a.rest a.sub a.was (omega (arith, step_not _ _ (sym c.in_err-step.was ∙ c.step_cost.ensures)))

pub overflow_add-result-2 : goal.overflow_add-result-2
overflow_add-result-2 c = omega (arith, (step_is _ _ c.in_ok-step.step (sym c.in_ok-step.was ∙ c.step_cost.ensures)).1)

pub returns : goal.returns
returns c = let a = c.args in let s = step_is _ _ c.in_ok-step.step (sym c.in_ok-step.was ∙ c.step_cost.ensures) in
    gains (best_at a.cost.now) (work_at a.tables.now.kept.now a.tables.now.planes.weights.now) a.low a.rest a.sub a.was c.in_ok-step.step s.0 (omega (arith, s.1))

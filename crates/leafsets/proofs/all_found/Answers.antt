use Rattle.leafsets.specs.Search.{found_start, found_next, found_fails}
use native.Mathlib.Omega.{arith}
use mathlib.Core.Path.{refl, sym, ap, subst, ◌∙◌}
use Rattle.std.specs.Prelude.{true, false, ◌+◌, ◌≤◌, ◌<◌, IfSome}
use Rattle.std.specs.Option.{is_some}
use Rattle.leafsets.proofs.all_found.Goals as goal

pub loop-k-init : goal.loop-k-init
loop-k-init c = let a = c.args in (omega arith, refl, omega arith, omega arith, found_start a.w a.ws.now a.s a.t a.count)

pub returns-in_default : goal.returns-in_default
returns-in_default c =
    let a = c.args in
    let l = c.loop-k in
    sym (l.invariant.4 ∙ found_fails a.w a.ws.now a.s a.t a.count l.k false c.loop-k-test.true (ap is_some (sym c.in_default.is) ∙ c.find_near.ensures.any) refl)

pub loop-k-preserved : goal.loop-k-preserved
loop-k-preserved c =
    let a = c.args in
    let l = c.loop-k in
    let (low, high) = subst (λ o. IfSome o (λ u. (a.t ≤ u) × (u < a.t + a.count))) c.in-Some.is c.find_near.ensures.within in (
      omega (arith, c.loop-k-test.true),
      refl,
      omega arith,
      omega arith,
      l.invariant.4 ∙ found_next a.w a.ws.now a.s a.t a.count l.k true c.loop-k-test.true (ap is_some (sym c.in-Some.is) ∙ c.find_near.ensures.any) refl,
    )

use borrow.Author.Rules.{rules}
use Rattle.frontier.specs.Turns.{open_most_count, open_most_some, openings_none, openings_next}
use Rattle.frontier.specs.Opens.{State, state}
use native.Mathlib.Omega.{arith}
use mathlib.Core.Path.{refl, ap}
use Rattle.frontier.proofs.open_all.Goals as goal

pub loop-i-init : goal.loop-i-init
loop-i-init c = let a = c.args in (omega arith, omega arith, omega arith, refl, refl, openings_none a.kids.now a.works.now a.n _)

pub loop-i-preserved : goal.loop-i-preserved
loop-i-preserved c = let a = c.args in let l = c.loop-i in let e = c.open_most-m.ensures in let s : State = state l.members l.opened l.m in
    let z = ap (λ (x : State). x.count) e in (
      omega arith,
      omega (arith, z, open_most_count a.kids.now a.works.now a.n s, l.invariant.1),
      omega (arith, z, open_most_some a.kids.now a.works.now a.n s, l.invariant.2),
      search rules,
      search rules,
      openings_next a.kids.now a.works.now a.n l.i _ s _ l.invariant.5 e,
    )

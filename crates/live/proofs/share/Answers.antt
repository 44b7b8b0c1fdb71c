use Rattle.std.proofs.Common.{rules, refl, arith}
use borrow.Author.Tests.{tests}
use Rattle.std.proofs.lemmas.Iterator.{cases_from_any, YieldsList-from_range}
use Rattle.live.specs.Common.{share_any, Shared, Apart}
use Rattle.live.proofs.share.Goals as goal

pub returns : goal.returns
returns c = let d = c.args in
    share_any d.sets.now d.w d.x d.y (λ i. omega (arith, c.type_inv.sets i)) c.any.result
    (cases_from_any _ _ c.any.result (Shared d.sets.now d.w d.x d.y) (Apart d.sets.now d.w d.x d.y) c.any.ensures.ran (YieldsList-from_range 0 d.w d.w refl (omega arith)) (λ x q k. search (rules, tests)) (λ x q k. search (rules, tests)))

use Rattle.ratings.specs.Lists.{IsSameLoan, ratings_of}
use Rattle.ratings.specs.Rated.{rated_open}
use Rattle.partition.specs.Folds.{fold_next}
use Rattle.std.proofs.Common.{rules, arith, ap, ◌∙◌, ℕ}
use Rattle.ratings.proofs.Ratings.rate_pins.Goals as goal

pub loop-u-preserved : goal.loop-u-preserved
loop-u-preserved c =
    let a = c.args in let l = c.loop-u in let o = c.rate_open.ensures in let s = a.single.now in
    let same : IsSameLoan a.self.now c.rate_open.new.self = search rules in (
      same,
      fold_next (rated_open s.mates.now s.none s.vertex a.r) a.pins.now (ratings_of a.self.now) (ratings_of l.self) _ l.u-index c.loop-u-test.true l.invariant.1
          (o.rated ∙ ap (λ (u : ℕ). rated_open s.mates.now s.none s.vertex a.r u (ratings_of l.self)) c.from.ensures),
      omega (arith, o.few, l.invariant.2),
    )

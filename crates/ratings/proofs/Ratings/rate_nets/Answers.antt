use Rattle.ratings.specs.Lists.{IsSameLoan, ratings_of}
use Rattle.ratings.specs.Rated.{rated_net}
use Rattle.slots.specs.Rising.{rising_of}
use Rattle.partition.specs.Folds.{fold_next}
use Rattle.std.proofs.Common.{rules, arith, ap, ◌∙◌, ℕ, ◌+◌, get_or}
use Rattle.ratings.proofs.Ratings.rate_nets.Goals as goal

pub loop-e-preserved : goal.loop-e-preserved
loop-e-preserved c =
    let a = c.args in let l = c.loop-e in let o = c.rate_net.ensures in let s = a.single.now in
    let same : IsSameLoan a.self.now c.rate_net.new.self = search rules in (
      same,
      fold_next (λ e. rated_net s.mates.now s.none s.vertex (get_or a.weights.now e 0) (rising_of a.words.now 2 (a.nets + e))) a.list.now (ratings_of a.self.now) (ratings_of l.self) _ l.e-index c.loop-e-test.true l.invariant.1
          (o.rated ∙ ap (λ (e : ℕ). rated_net s.mates.now s.none s.vertex (get_or a.weights.now e 0) (rising_of a.words.now 2 (a.nets + e)) (ratings_of l.self)) c.from.ensures),
      omega (arith, o.few, l.invariant.2),
    )

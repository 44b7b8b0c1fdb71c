use Rattle.std.proofs.Common.{◌≡◌, ◌+◌, ◌≤◌, take}
use Rattle.ratings.specs.Lists.{IsSameLoan, ratings_of}
use Rattle.ratings.specs.Rated.{rated_pins}
use Rattle.ratings.proofs.Ratings.rate_pins.Given as goal

abbrev pub invariant-loop-u : goal.invariant-loop-u
invariant-loop-u l = IsSameLoan l.initial.self l.self × (ratings_of l.self ≡ rated_pins l.single.mates.now l.single.none l.single.vertex l.r (take l.u-index l.pins) (ratings_of l.initial.self)) × (l.self.count ≤ l.initial.self.count + l.u-index)

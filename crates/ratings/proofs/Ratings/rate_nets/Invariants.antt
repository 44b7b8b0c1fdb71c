use Rattle.std.proofs.Common.{◌≡◌, ◌+◌, ◌*◌, ◌≤◌, take}
use Rattle.ratings.specs.Lists.{IsSameLoan, ratings_of}
use Rattle.ratings.specs.Rated.{rated_nets}
use Rattle.ratings.proofs.Ratings.rate_nets.Given as goal

abbrev pub invariant-loop-e : goal.invariant-loop-e
invariant-loop-e l = IsSameLoan l.initial.self l.self × (ratings_of l.self ≡ rated_nets l.words l.nets l.weights l.single.mates.now l.single.none l.single.vertex (take l.e-index l.list) (ratings_of l.initial.self)) × (l.self.count ≤ l.initial.self.count + l.e-index * 64)

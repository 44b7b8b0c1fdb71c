use Rattle.slots.specs.Rising.{listed_all}
use Rattle.ratings.specs.Lists.{ratings_of}
use Rattle.ratings.specs.Rated.{net_small}
use Rattle.std.proofs.Common.{arith, ◌∙◌, ◌+◌}
use Rattle.ratings.proofs.Ratings.rate_net.Goals as goal

pub returns-then-len-le64-clause-rated : goal.returns-then-len-le64-clause-rated
returns-then-len-le64-clause-rated c =
    let a = c.args in let m = c.members-len in let s = a.single.now in
    c.rate_pins.ensures.rated ∙ net_small s.mates.now s.none s.vertex a.words.now (a.nets + a.e) m.result _ c.get_or.result _ _ (ratings_of a.self.now) m.ensures.0 c.if-len-le64.true (listed_all a.words.now _ _ 2 (a.nets + a.e) m.result m.ensures.0 m.ensures.1 (omega arith)) c.get_or.ensures c.rate_of-r.ensures

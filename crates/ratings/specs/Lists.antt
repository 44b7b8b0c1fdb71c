-- Ratings in lent lists: the rating of each vertex, and the first places of a list as the vertices rated. Assumes nothing.
use Rattle.std.specs.Prelude.{◌≡◌, length}
use Rattle.spec.specs.Coarsen.{Ratings}
use Rattle.ratings.specs.declared.Ratings.{Ratings as Lists}
use Rattle.ratings.specs.Rated.{ratings_in}

-- the same lists are lent, as long as they were, whatever they hold
abbrev pub IsSameLoan : Lists → Lists → Type 0
IsSameLoan old new =
    (new.rating.ghost_name ≡ old.rating.ghost_name)
    × (new.touched.ghost_name ≡ old.touched.ghost_name)
    × (length new.rating.now ≡ length old.rating.now)
    × (length new.touched.now ≡ length old.touched.now)

abbrev pub ratings_of : Lists → Ratings
ratings_of l = ratings_in l.rating.now l.touched.now l.count

use lib.ListN.{length}
use Rattle.bisection.proofs.+bisect_rec.Given as goal

abbrev pub decreases-bisect_rec : goal.decreases-bisect_rec
decreases-bisect_rec l = length l.leaves.now

use Rattle.bisect.proofs.+multilevel.Given as goal

abbrev pub decreases-multilevel : goal.decreases-multilevel
decreases-multilevel l = l.level.size.vertices

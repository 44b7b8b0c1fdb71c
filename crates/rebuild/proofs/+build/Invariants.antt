use Rattle.rebuild.proofs.+build.Given as goal

abbrev pub decreases-build : goal.decreases-build
decreases-build l = l.s

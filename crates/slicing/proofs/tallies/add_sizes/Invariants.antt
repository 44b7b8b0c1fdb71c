use Rattle.spec.specs.Lists.{range}
use Rattle.slicing.specs.Sums.{Summed}
use Rattle.slicing.specs.Nodes.{table_share}
use Rattle.slicing.proofs.tallies.add_sizes.Given as goal

abbrev pub invariant-loop-v : goal.invariant-loop-v
invariant-loop-v l = Summed (table_share l.w l.target l.sets l.sizes) l.initial.sums (range l.v) l.sums

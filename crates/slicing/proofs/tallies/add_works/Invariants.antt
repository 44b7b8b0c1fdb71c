use Rattle.laws.specs.FlatLaws.{left_of, right_of}
use Rattle.slicing.specs.Sums.{Summed}
use Rattle.slicing.specs.Nodes.{step_share}
use lib.ListN.{take}
use Rattle.slicing.proofs.tallies.add_works.Given as goal

abbrev pub invariant-loop-node : goal.invariant-loop-node
invariant-loop-node l = Summed (step_share l.w (left_of l.tree.kids.now l.tree.leaves) (right_of l.tree.kids.now l.tree.leaves) l.list.sets.now l.list.works.now) l.initial.sums (take l.node-index l.order) l.sums

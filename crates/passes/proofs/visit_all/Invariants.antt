use Rattle.passes.specs.Loops.{Walking}
use Rattle.spec.specs.Network.{leaf_count}
use Rattle.spec.specs.Calls.{flag_at}
use Rattle.spec.specs.Improve.{visits}
use Rattle.network.specs.Views.{net_in}
use Rattle.pricing.specs.Lists.{IsSameLoan}
use Rattle.reprice.specs.Held.{tree_of, IsAsLong}
use Rattle.passes.proofs.visit_all.Given as goal

abbrev pub invariant-loop-v : goal.invariant-loop-v
invariant-loop-v l = IsSameLoan l.initial.list l.list × IsAsLong l.initial.list l.list
    × Walking (net_in l.task.network) (flag_at l.task.search.flags.now) l.task.search.k l.task.search.limit l.nodes (visits (net_in l.task.network) (flag_at l.task.search.flags.now) l.task.search.k l.task.search.limit l.nodes (tree_of (leaf_count (net_in l.task.network)) l.initial.kids)) l.kids l.list.sets.now l.list.sizes.now l.list.works.now l.rebuilt l.tried l.v-index

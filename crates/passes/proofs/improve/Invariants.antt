use Prim.Native.Nat.{◌-◌}
use Rattle.passes.specs.Loops.{Going}
use Rattle.spec.specs.Network.{leaf_count}
use Rattle.spec.specs.Calls.{flag_at}
use Rattle.spec.specs.Improve.{improve_tree}
use Rattle.network.specs.Views.{net_in}
use Rattle.pricing.specs.Lists.{IsSameLoan}
use Rattle.reprice.specs.Held.{tree_of, IsAsLong}
use Rattle.passes.proofs.improve.Given as goal

abbrev pub invariant-loop : goal.invariant-loop
invariant-loop l = IsSameLoan l.initial.list l.list × IsAsLong l.initial.list l.list
    × Going (net_in l.task.network) (flag_at l.task.search.flags.now) l.task.search.k l.task.search.limit l.most (improve_tree (net_in l.task.network) (flag_at l.task.search.flags.now) l.task.search.k l.task.search.limit l.most (tree_of (leaf_count (net_in l.task.network)) l.initial.kids)) l.kids l.list.sets.now l.list.sizes.now l.list.works.now l.rebuilt l.tried (l.most - l.counter)

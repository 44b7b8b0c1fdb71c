use Rattle.network.specs.Views.{net_in}
use Rattle.reconf.specs.Again.{visitable_in}
use Rattle.reconf.proofs.reconf_listed.Goals as goal

pub reconf_node-requires-clause-visitable : goal.reconf_node-requires-clause-visitable
reconf_node-requires-clause-visitable c = let a = c.args in let A = a.task.now.network in let p = a.list.now in
    (net_in A, visitable_in A A.holds c.leaf_count-n.result c.leaf_count-n.ensures a.task.now.search.flags.now a.kids.now p.sets.now p.sizes.now p.works.now c.requires.standing)

pub returns : goal.returns
returns c = let a = c.args in let A = a.task.now.network in let p = a.list.now in
    c.reconf_node.ensures (net_in A) (visitable_in A A.holds c.leaf_count-n.result c.leaf_count-n.ensures a.task.now.search.flags.now a.kids.now p.sets.now p.sizes.now p.works.now c.requires.standing)

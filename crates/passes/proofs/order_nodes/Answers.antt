use Rattle.passes.specs.Nodes.{sorted_front}
use mathlib.Core.Path.{refl}
use Rattle.passes.proofs.order_nodes.Goals as goal

pub returns : goal.returns
returns c = let a = c.args in (c.post_order-c.ensures.0, sorted_front a.list.now.works.now a.kids.now a.nodes.now c.post_order-c.new.out c.by_work.new.nodes _ a.n c.post_order-c.result c.post_order-c.ensures.0 c.requires.3 c.requires.1 c.post_order-c.ensures.1 c.by_work.ensures refl)

use Rattle.slots.specs.Rising.{listed_fits, listed_all}
use Rattle.coarsen.specs.Mapped.{images_put}
use Rattle.std.proofs.Common.{arith, sym, ◌+◌, length-take-le}
use Rattle.coarsen.proofs.map_net.Goals as goal

pub slice_bounds-pins-end : goal.slice_bounds-pins-end
slice_bounds-pins-end c = let a = c.args in let o = c.members-len in listed_fits a.graph.now _ _ 2 (a.nets + a.e) o.result o.ensures.0 o.ensures.1 (omega arith)

pub slice_bounds-put_coarse-end : goal.slice_bounds-put_coarse-end
slice_bounds-put_coarse-end c = let a = c.args in let o = c.members-len in sym (length-take-le o.result o.new.out (listed_fits a.graph.now _ _ 2 (a.nets + a.e) o.result o.ensures.0 o.ensures.1 (omega arith)))

pub returns : goal.returns
returns c = let a = c.args in let o = c.members-len in images_put a.graph.now _ _ a.places.now _ _ (a.coarse + a.e) (listed_all a.graph.now _ _ 2 (a.nets + a.e) o.result o.ensures.0 o.ensures.1 (omega arith)) c.empty.ensures c.put_coarse.ensures

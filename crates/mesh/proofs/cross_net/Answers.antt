use Rattle.slots.specs.Rising.{listed_all, listed_fits}
use Rattle.mesh.specs.Entries.{entered}
use Rattle.mesh.specs.Crossed.{crossed_net}
use Rattle.std.proofs.Common.{arith, ◌+◌, ap, sym, ◌∙◌, length, length-take-le}
use Rattle.mesh.proofs.cross_net.Goals as goal

pub slice_bounds-pins-end : goal.slice_bounds-pins-end
slice_bounds-pins-end c = let a = c.args in let o = c.members-len in listed_fits a.words.now _ _ 2 (a.place.now.nets + a.e) o.result o.ensures.0 o.ensures.1 (omega arith)

pub slice_bounds-put_each-end : goal.slice_bounds-put_each-end
slice_bounds-put_each-end c = let a = c.args in let o = c.members-len in sym (length-take-le o.result o.new.out (listed_fits a.words.now _ _ 2 (a.place.now.nets + a.e) o.result o.ensures.0 o.ensures.1 (omega arith)))

pub returns : goal.returns
unfolding crossed_net
returns c = let a = c.args in let o = c.members-len in c.put_each.ensures ∙ ap (λ l. entered 4 a.place.now.vertices l 0 a.e a.words.now (length l)) (listed_all a.words.now _ _ 2 (a.place.now.nets + a.e) o.result o.ensures.0 o.ensures.1 (omega arith))

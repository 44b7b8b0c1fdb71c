use Rattle.listing.specs.Head.{head_placed}
use Rattle.listing.proofs.head.put_head.Goals as goal

pub returns : goal.returns
returns c =
    let a = c.args in
    head_placed a.out.now a.steps a.prices.now c.put_two.ensures c.put_total.ensures c.put_widest.ensures c.put_two-2.ensures

use lib.ListN.{length, get_or}
use Rattle.leafsets.specs.Passes.{ups_next, ups_none, joined_is, joined_length}
use native.Mathlib.Omega.{arith}
use mathlib.Core.Path.{sym, ap, ◌∙◌}
use Rattle.leafsets.proofs.join_up.Goals as goal

pub loop-node-preserved : goal.loop-node-preserved
loop-node-preserved c =
    let a = c.args in
    let l = c.loop-node in
    let e = joined_is a.w a.base a.kids.now a.n l.ws c.unite.new.words (get_or a.order.now l.node-index 0) c.from-v.result c.saturating_sub-j.result c.from-l.result c.from-r.result
    c.from-v.ensures c.saturating_sub-j.ensures (c.from-l.ensures ∙ c.get_or.ensures) (c.from-r.ensures ∙ c.get_or-in-loop-node.ensures) c.unite.ensures in (
      omega arith,
      ap length e ∙ joined_length a.w a.base a.kids.now a.n l.ws (get_or a.order.now l.node-index 0) ∙ l.invariant.1,
      ups_next a.w a.base a.kids.now a.n a.ws.now a.order.now l.node-index l.ws c.unite.new.words (omega arith) l.invariant.2 e,
    )

pub returns : goal.returns
returns c = let a = c.args in let l = c.loop-node in sym (ups_none a.w a.base a.kids.now a.n l.ws a.order.now l.node-index (omega arith)) ∙ l.invariant.2

use Rattle.frontier.specs.Turns.{open_is}
use Prim.Native.Nat.{ℕ, ◌+◌, ◌*◌, ◌-◌}
use mathlib.Core.Path.{ap, ◌∙◌}
use lib.ListN.{get_or}
use Rattle.frontier.proofs.open.Goals as goal

pub returns : goal.returns
returns c = let a = c.args in let v = c.get_or-v.result in let d = c.saturating_sub-at.ensures ∙ ap (λ (x : ℕ). x - a.n) c.from.ensures in
    open_is a.kids.now a.members.now a.opened.now c.put.new.list c.put-2.new.list c.put-3.new.list c.put-4.new.list
    a.n a.m a.p v c.get_or-last.result c.get_or.result c.get_or-2.result c.get_or-v.ensures c.get_or-last.ensures
    (c.get_or.ensures ∙ ap (λ (x : ℕ). get_or a.kids.now (x * 2) 0) d) (c.get_or-2.ensures ∙ ap (λ (x : ℕ). get_or a.kids.now (x * 2 + 1) 0) d)
    c.put.ensures c.put-2.ensures c.put-3.ensures c.put-4.ensures

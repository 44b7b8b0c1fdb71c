use Rattle.rebuild.specs.Writes.{put_is}
use Prim.Native.Nat.{ℕ, ◌-◌}
use mathlib.Core.Path.{ap, ◌∙◌}
use Rattle.rebuild.proofs.put_node.Goals as goal

pub returns : goal.returns
returns c = let a = c.args in put_is a.kids.now c.put.new.list c.put-2.new.list a.n a.v a.left a.right c.saturating_sub-at.result (c.saturating_sub-at.ensures ∙ ap (λ (x : ℕ). x - a.n) c.from.ensures) c.put.ensures c.put-2.ensures

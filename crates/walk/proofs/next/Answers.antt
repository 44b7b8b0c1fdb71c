use Rattle.walk.specs.Stack.{pushed, picked, pushed_both}
use Prim.Native.Nat.{ℕ}
use mathlib.Core.Path.{refl, ap, ◌∙◌}
use Rattle.walk.proofs.next.Goals as goal

pub returns : goal.returns
unfolding pushed_both
returns c = let a = c.args in (c.pick-2.ensures ∙ ap (picked a.n a.r) c.pick.ensures, c.push-2.ensures ∙ ap (λ (q : ℕ). pushed a.n q a.r) c.push.ensures, refl)

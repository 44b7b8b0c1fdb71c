use Rattle.frontier.specs.Ranks.{more_leaf, more_first, more_takes, more_stays}
use native.Mathlib.Omega.{arith}
use Prim.Native.Nat.{ℕ}
use mathlib.Core.Path.{ap, ◌∙◌}
use lib.ListN.{get_or}
use Rattle.frontier.proofs.more_work.Goals as goal

pub returns-then-node-n : goal.returns-then-node-n
returns-then-node-n c = let a = c.args in more_leaf a.n a.works.now a.most a.place a.v (omega (arith, c.from-node.ensures, c.if-node-n.true))

pub returns-then-work-other : goal.returns-then-work-other
returns-then-work-other c = let a = c.args in
    more_stays a.n a.works.now a.most a.place a.v c.get_or-work.result (omega (arith, c.from-node.ensures, c.if-node-n.false))
    (c.get_or-work.ensures ∙ ap (λ (k : ℕ). get_or a.works.now k 0) c.from-node.ensures) c.in-Some.other c.in-Some.is c.if-work-other.true

pub returns-else-work-other : goal.returns-else-work-other
returns-else-work-other c = let a = c.args in
    more_takes a.n a.works.now a.most a.place a.v c.get_or-work.result (omega (arith, c.from-node.ensures, c.if-node-n.false))
    (c.get_or-work.ensures ∙ ap (λ (k : ℕ). get_or a.works.now k 0) c.from-node.ensures) c.in-Some.other c.in-Some.is c.if-work-other.false

pub returns-in_default : goal.returns-in_default
returns-in_default c = let a = c.args in
    more_first a.n a.works.now a.most a.place a.v c.get_or-work.result (omega (arith, c.from-node.ensures, c.if-node-n.false))
    (c.get_or-work.ensures ∙ ap (λ (k : ℕ). get_or a.works.now k 0) c.from-node.ensures) c.in_default.is

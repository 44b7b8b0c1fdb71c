use Rattle.cost.specs.Checks.{few_words, few_sets, few_sizes, few_works, few_steps}
use lib.Dec.{ltb}
use native.Mathlib.Omega.{arith}
use Prim.Native.Nat.{ℕ, ◌*◌}
use mathlib.Core.Path.{ap, ◌∙◌}
use lib.ListN.{length}
use Rattle.cost.proofs.too_few.Goals as goal

pub returns-then-words-stated : goal.returns-then-words-stated
returns-then-words-stated c = let a = c.args in few_words a.n a.words (length a.list.now.sets.now) (length a.list.now.sizes.now) (length a.list.now.works.now) a.steps (omega (arith, c.if-words-stated.true, c.stated.ensures))

pub returns-then-list-nodes : goal.returns-then-list-nodes
returns-then-list-nodes c = let a = c.args in few_sets a.n a.words (length a.list.now.sets.now) (length a.list.now.sizes.now) (length a.list.now.works.now) a.steps (omega (arith, c.if-words-stated.false, c.stated.ensures)) (omega (arith, c.if-list-nodes.true, c.saturating_sub-inner.ensures))

pub returns-then-list-nodes-2 : goal.returns-then-list-nodes-2
returns-then-list-nodes-2 c = let a = c.args in few_sizes a.n a.words (length a.list.now.sets.now) (length a.list.now.sizes.now) (length a.list.now.works.now) a.steps (omega (arith, c.if-words-stated.false, c.stated.ensures)) (omega (arith, c.if-list-nodes.false, c.saturating_sub-inner.ensures)) (omega (arith, c.if-list-nodes-2.true, c.saturating_sub-inner.ensures))

pub returns-then-list-nodes-3 : goal.returns-then-list-nodes-3
returns-then-list-nodes-3 c = let a = c.args in few_works a.n a.words (length a.list.now.sets.now) (length a.list.now.sizes.now) (length a.list.now.works.now) a.steps (omega (arith, c.if-words-stated.false, c.stated.ensures)) (omega (arith, c.if-list-nodes.false, c.saturating_sub-inner.ensures)) (omega (arith, c.if-list-nodes-2.false, c.saturating_sub-inner.ensures)) (omega (arith, c.if-list-nodes-3.true, c.saturating_sub-inner.ensures))

pub returns : goal.returns
returns c = let a = c.args in ap (λ (x : ℕ). ltb a.steps (x * 5)) c.saturating_sub-inner.ensures ∙ few_steps a.n a.words (length a.list.now.sets.now) (length a.list.now.sizes.now) (length a.list.now.works.now) a.steps (omega (arith, c.if-words-stated.false, c.stated.ensures)) (omega (arith, c.if-list-nodes.false, c.saturating_sub-inner.ensures)) (omega (arith, c.if-list-nodes-2.false, c.saturating_sub-inner.ensures)) (omega (arith, c.if-list-nodes-3.false, c.saturating_sub-inner.ensures))

use Rattle.bisect.specs.Raw.{leaf_put, leaf_put_at, raw}
use Rattle.mesh.specs.Entries.{emptied}
use Rattle.cells.specs.Loop.{turns, turns_none, turns_next, turns_end}
use Rattle.std.proofs.Common.{ℕ, sym, ap, ◌∙◌, arith}
use Rattle.bisect.proofs.hypergraph.put_leaves.Goals as goal

pub loop-v-init : goal.loop-v-init
loop-v-init c = sym (turns_none _ _)

pub loop-v-preserved : goal.loop-v-preserved
loop-v-preserved c = let a = c.args in let l = c.loop-v in turns_next (leaf_put_at a.nets a.leg_counts.now a.legs.now a.leaves.now) _ l.v l.invariant (c.put_leaf.ensures ∙ ap (λ (u : ℕ). leaf_put a.nets a.leg_counts.now a.legs.now u l.v l.words) c.from.ensures)

pub returns : goal.returns
unfolding raw
returns c = let a = c.args in let l = c.loop-v in turns_end (leaf_put_at a.nets a.leg_counts.now a.legs.now a.leaves.now) (emptied 2 a.nets a.words.now 256) (omega arith) (l.invariant ∙ ap (λ g. turns (leaf_put_at a.nets a.leg_counts.now a.legs.now a.leaves.now) g l.v) c.empty_all.ensures)

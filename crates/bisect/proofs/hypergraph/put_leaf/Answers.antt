use Rattle.bisect.specs.Raw.{leaf_put}
use Rattle.mesh.specs.Entries.{entered}
use Rattle.std.specs.Prelude.{◌||◌, eqb, get_or, ◌≡◌}
use Rattle.slots.specs.Slots.{with_set, held}
use Rattle.cells.specs.Loop.{turns_none, turns_next}
use Rattle.std.proofs.Common.{ℕ, ◌+◌, ◌*◌, sym, ap, ◌∙◌, arith}
use Rattle.bisect.proofs.hypergraph.put_leaf.Goals as goal

pub loop-k-init : goal.loop-k-init
unfolding entered
loop-k-init c = sym (turns_none _ _)

pub loop-k-preserved : goal.loop-k-preserved
unfolding entered
loop-k-preserved c = let a = c.args in let l = c.loop-k in turns_next _ _ l.k l.invariant (c.insert.ensures ∙ ap (λ (u : ℕ). with_set l.words 2 (a.nets + u) (λ j. held l.words 2 (a.nets + u) j || eqb j a.v)) (c.from.ensures ∙ c.get_or-in-loop-k.ensures))

pub returns : goal.returns
unfolding leaf_put
returns c =
    let a = c.args in
    let e : c.loop-k.k ≡ get_or a.leg_counts.now a.l 0 = omega (arith, c.loop-k-test.false, c.loop-k.auto.k-end, c.from-k-end.ensures ∙ c.get_or.ensures) in
    c.loop-k.invariant ∙ ap (entered 2 a.nets a.legs.now (a.l * 32) a.v a.words.now) e

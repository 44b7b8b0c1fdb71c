use Rattle.rebuild.specs.Builds.{part_proper, build_whole, build_joint}
use Rattle.subset.specs.Walk.{split_at}
use native.Mathlib.Omega.{arith}
use Prim.Native.Nat.{ℕ}
use mathlib.Core.Path.{sym, ap, ◌∙◌}
use lib.ListN.{get_or}
use Rattle.rebuild.proofs.+build.Goals as goal

pub build-first-requires : goal.build-first-requires
build-first-requires t c = let p = part_proper (split_at c.args.part.now) c.args.s c.in-Some.l (sym c.in-Some.is ∙ c.part_of.ensures) in
    (omega (arith, p.1, c.decreases), p.0)

pub overflow_sub-s : goal.overflow_sub-s
overflow_sub-s t c = let p = part_proper (split_at c.args.part.now) c.args.s c.in-Some.l (sym c.in-Some.is ∙ c.part_of.ensures) in omega (arith, p.1)

pub build-second-requires : goal.build-second-requires
build-second-requires t c = let p = part_proper (split_at c.args.part.now) c.args.s c.in-Some.l (sym c.in-Some.is ∙ c.part_of.ensures) in
    (omega (arith, p.0, p.1, c.decreases), omega (arith, p.1))

pub returns-in-None-clause-built : goal.returns-in-None-clause-built
returns-in-None-clause-built t c = let a = c.args in
    build_whole (split_at a.part.now) a.s a.kids.now a.members.now a.free.now.nodes.now a.n a.free.now.left c.get_or.result (sym c.in-None.is ∙ c.part_of.ensures)
    (c.get_or.ensures ∙ ap (λ (x : ℕ). get_or a.members.now x 0) c.low.ensures.0)

pub returns-in-Some-clause-built : goal.returns-in-Some-clause-built
returns-in-Some-clause-built t c = let a = c.args in
    build_joint (split_at a.part.now) a.s a.kids.now a.members.now a.free.now.nodes.now a.n a.free.now.left c.in-Some.l
    c.build-first.new.kids c.build-second.new.kids c.join_node.new.kids c.build-first.new.free.nodes.now c.build-second.new.free.nodes.now c.join_node.new.free.nodes.now
    c.build-first.result c.build-first.new.free.left c.build-second.result c.build-second.new.free.left c.join_node.result c.join_node.new.free.left
    (sym c.in-Some.is ∙ c.part_of.ensures) c.build-first.ensures.built c.build-second.ensures.built c.join_node.ensures.joined

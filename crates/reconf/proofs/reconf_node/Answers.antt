use Rattle.spec.specs.Memory.{filled}
use Rattle.reconf.specs.Settled.{word_room, members_few, left_few, left_many, taken_is, opened_small, locals_front, small_front, stays_searched, rebuilds}
use Rattle.frontier.specs.Opens.{freed}
use Rattle.laws.specs.ArrayRebuild.{build_array}
use Rattle.subset.specs.Regions.{region_of}
use Rattle.subset.specs.Walk.{split_at}
use Rattle.spec.specs.Tree.{pairs_of}
use borrow.Author.Tests.{not-true, not-false}
use native.Mathlib.Omega.{arith}
use Prim.Native.Nat.{ℕ, ◌-◌}
use mathlib.Core.Path.{refl, ap, ◌∙◌}
use mathlib.Core.List.{List}
use lib.ListN.{take, length}
use Rattle.std.proofs.lemmas.Bool.{not_from_true, not_from_false}
use Rattle.reconf.proofs.reconf_node.Goals as goal

pub returns-then-members-lt3 : goal.returns-then-members-lt3
unfolding filled
returns-then-members-lt3 c = let a = c.args in let b = a.search.now.clamped in let f = c.of-frontier.result in let M = c.members-members.result.now in
    λ N h. left_few h a.v c.requires.node a.search.now.k (filled 12 0) (filled 12 0) f.members f.opened f.count (omega (arith, b.0)) (omega (arith, b.1)) (omega (arith, b.1)) c.of-frontier.ensures a.search.now.limit (omega (arith, c.if-members-lt3.true, taken_is h a.v c.requires.node a.search.now.k (filled 12 0) (filled 12 0) f.members f.opened f.count (omega (arith, b.0)) (omega (arith, b.1)) (omega (arith, b.1)) c.of-frontier.ensures M (take (f.count - 1) f.opened) c.members-members.ensures refl))

pub returns-then-c-gt128 : goal.returns-then-c-gt128
unfolding filled
returns-then-c-gt128 c = let a = c.args in let b = a.search.now.clamped in let f = c.of-frontier.result in let M = c.members-members.result.now in let l = c.local_list-c in
    λ N h. left_many h a.v c.requires.node a.search.now.k (filled 12 0) (filled 12 0) f.members f.opened f.count (omega (arith, b.0)) (omega (arith, b.1)) (omega (arith, b.1)) c.of-frontier.ensures a.search.now.limit l.result (l.ensures.0 ∙ ap length (locals_front h a.v c.requires.node a.search.now.k (filled 12 0) (filled 12 0) f.members f.opened f.count (omega (arith, b.0)) (omega (arith, b.1)) (omega (arith, b.1)) c.of-frontier.ensures M (take (f.count - 1) f.opened) c.members-members.ensures refl)) c.if-c-gt128.true

pub search_region-found-requires-clause-room : goal.search_region-found-requires-clause-room
unfolding filled
search_region-found-requires-clause-room c = let a = c.args in let b = a.search.now.clamped in let f = c.of-frontier.result in let M = c.members-members.result.now in let l = c.local_list-c in
    let few = members_few c.requires.visitable.1 a.v c.requires.node a.search.now.k (filled 12 0) (filled 12 0) f.members f.opened f.count (omega (arith, b.0)) (omega (arith, b.1)) (omega (arith, b.1)) c.of-frontier.ensures in let long = taken_is c.requires.visitable.1 a.v c.requires.node a.search.now.k (filled 12 0) (filled 12 0) f.members f.opened f.count (omega (arith, b.0)) (omega (arith, b.1)) (omega (arith, b.1)) c.of-frontier.ensures M (take (f.count - 1) f.opened) c.members-members.ensures refl in
    (omega (arith, c.if-members-lt3.false), omega (arith, few, long, b.1), word_room (length M) a.search.now.k _ (omega (arith, few, long)) (omega (arith, c.requires.words, l.auto.words)))

pub search_region-found-requires-clause-light : goal.search_region-found-requires-clause-light
unfolding filled
search_region-found-requires-clause-light c = let a = c.args in let b = a.search.now.clamped in let f = c.of-frontier.result in let M = c.members-members.result.now in let l = c.local_list-c in
    small_front c.requires.visitable.1 a.v c.requires.node a.search.now.k (filled 12 0) (filled 12 0) f.members f.opened f.count (omega (arith, b.0)) (omega (arith, b.1)) (omega (arith, b.1)) c.of-frontier.ensures M (take (f.count - 1) f.opened) c.members-members.ensures refl l.result (filled 256 0) l.new.local l.ensures.0 l.ensures.1 (omega arith)

pub opened_cost-old-requires : goal.opened_cost-old-requires
unfolding filled
opened_cost-old-requires c = let a = c.args in let b = a.search.now.clamped in let f = c.of-frontier.result in let M = c.members-members.result.now in
    opened_small c.requires.visitable.1 a.v c.requires.node a.search.now.k (filled 12 0) (filled 12 0) f.members f.opened f.count (omega (arith, b.0)) (omega (arith, b.1)) (omega (arith, b.1)) c.of-frontier.ensures M c.opened-opened.result.now c.members-members.ensures c.opened-opened.ensures

pub accepts-requires-clause-old : goal.accepts-requires-clause-old
unfolding filled
accepts-requires-clause-old c = let a = c.args in let b = a.search.now.clamped in let f = c.of-frontier.result in let M = c.members-members.result.now in
    omega (arith, c.opened_cost-old.ensures, opened_small c.requires.visitable.1 a.v c.requires.node a.search.now.k (filled 12 0) (filled 12 0) f.members f.opened f.count (omega (arith, b.0)) (omega (arith, b.1)) (omega (arith, b.1)) c.of-frontier.ensures M c.opened-opened.result.now c.members-members.ensures c.opened-opened.ensures)

pub returns-then-not-accepts : goal.returns-then-not-accepts
unfolding filled
returns-then-not-accepts c = let a = c.args in let b = a.search.now.clamped in let f = c.of-frontier.result in let M = c.members-members.result.now in let l = c.local_list-c in let s = c.search_region-found in
    λ N h. stays_searched h a.v c.requires.node a.search.now.k (filled 12 0) (filled 12 0) f.members f.opened f.count (omega (arith, b.0)) (omega (arith, b.1)) (omega (arith, b.1)) c.of-frontier.ensures M c.opened-opened.result.now c.members-members.ensures c.opened-opened.ensures l.result (filled 256 0) l.new.local l.ensures.0 l.ensures.1 (omega arith)
    a.search.now.limit s.result.part.now s.result.cost s.result.tried (omega (arith, c.if-c-gt128.false)) (omega (arith, c.if-members-lt3.false)) s.ensures.searches
    c.opened_cost-old.result c.opened_cost-old.ensures c.accepts.result c.accepts.ensures (not-true c.accepts.result (not_from_false _ c.if-not-accepts.true))

pub returns : goal.returns
unfolding filled
returns c = let a = c.args in let b = a.search.now.clamped in let f = c.of-frontier.result in let M = c.members-members.result.now in let l = c.local_list-c in let s = c.search_region-found in let w = c.build in let o : List ℕ = c.opened-opened.result.now in
    λ N h. rebuilds h a.v c.requires.node a.search.now.k (filled 12 0) (filled 12 0) f.members f.opened f.count (omega (arith, b.0)) (omega (arith, b.1)) (omega (arith, b.1)) c.of-frontier.ensures M c.opened-opened.result.now c.members-members.ensures c.opened-opened.ensures l.result (filled 256 0) l.new.local l.ensures.0 l.ensures.1 (omega arith)
    a.search.now.limit s.result.part.now s.result.cost s.result.tried (omega (arith, c.if-c-gt128.false)) (omega (arith, c.if-members-lt3.false)) s.ensures.searches
    c.opened_cost-old.result c.opened_cost-old.ensures c.accepts.result c.accepts.ensures (not-false c.accepts.result (not_from_true _ c.if-not-accepts.false))
    c.mask_count-all.result c.mask_count-all.ensures.0 w.new.kids w.new.free.nodes.now w.result w.new.free.left w.auto.kids
    (w.ensures.built ∙ ap (λ (sl : List ℕ). build_array a.n M (region_of (split_at s.result.part.now) (c.mask_count-all.result - 1)) sl (pairs_of a.kids.now)) (λ i. freed (c.of.ensures.nodes i) (c.of.ensures.left i)))

use Rattle.std.proofs.Common.{ap, ◌∙◌, ℕ, ◌+◌, ◌-◌, ◌/◌, ltb}
use lib.Ieee.{of_bits}
use Rattle.moves.specs.Split.{site_placed}
use Rattle.partition.specs.Layout.{place_of}
use Rattle.fmpass.specs.State.{lists_apart, run_in}
use Rattle.fmpass.specs.Makes.{count_low, stamps_low, made_site, made_split, made_over, made_on}
use Rattle.fmpass.proofs.lists.make_move.Goals as goal

pub counted-requires : goal.counted-requires
counted-requires c =
    let a = c.args in
    let g = a.layout.now in
    let M = lists_apart a.work.now a.keys.now a.stamps.now a.waiting.now in
    count_low g.nets g.vertices g.sides g.net_count g.vertex_weights.now M (run_in a.pass.now a.draws.now) c.requires.3 a.v c.requires.0 c.requires.1

pub enter_neighbours-requires : goal.enter_neighbours-requires
enter_neighbours-requires c =
    let a = c.args in
    let g = a.layout.now in
    let h = c.requires.3 in
    let vw = g.vertex_weights.now in
    let M = lists_apart a.work.now a.keys.now a.stamps.now a.waiting.now in
    let R = run_in a.pass.now a.draws.now in (
      h.site.low.2,
      c.requires.0,
      site_placed _ (place_of g) _
          (made_site g.nets g.vertices g.sides g.net_count vw M R h a.v c.requires.0 c.requires.1 _ _ _ _ _ c.move_vertex.ensures c.insert.ensures c.put.ensures)
          (made_split g.nets g.vertices g.sides g.net_count vw M R h a.v c.requires.0 c.requires.1 _ _ _ _ _ c.move_vertex.ensures c.insert.ensures c.put.ensures),
      stamps_low g.nets g.vertices g.sides g.net_count vw M R h a.v c.requires.0 c.requires.1,
    )

pub returns-then-is_past_limit-clause-made : goal.returns-then-is_past_limit-clause-made
unfolding of_bits
returns-then-is_past_limit-clause-made c most =
    let a = c.args in
    let g = a.layout.now in
    let h = c.requires.3 in
    let vw = g.vertex_weights.now in
    let M = lists_apart a.work.now a.keys.now a.stamps.now a.waiting.now in
    let R = run_in a.pass.now a.draws.now in
    let n = c.counted.new.self in
    made_over g.nets g.vertices g.sides g.net_count vw M R h a.v c.requires.0 c.requires.1 _ _ _ _ _ c.move_vertex.ensures c.insert.ensures c.put.ensures
    c.requires.2 g.net_weights.now most c.get_or-key.result n.sum n.best n.count n.peak c.is_past_limit.result
    c.get_or-key.ensures c.counted.ensures.count c.counted.ensures.sums
    (c.is_past_limit.ensures ∙ ap (λ (z : ℕ). ltb (50 + z / 4) (n.count - n.peak)) c.vertex_count.ensures) c.if-is_past_limit.true

pub returns-clause-made : goal.returns-clause-made
unfolding of_bits
returns-clause-made c most =
    let a = c.args in
    let g = a.layout.now in
    let h = c.requires.3 in
    let vw = g.vertex_weights.now in
    let M = lists_apart a.work.now a.keys.now a.stamps.now a.waiting.now in
    let R = run_in a.pass.now a.draws.now in
    let n = c.counted.new.self in
    let e = c.enter_neighbours in
    made_on g.nets g.vertices g.sides g.net_count vw M R h a.v c.requires.0 c.requires.1 _ _ _ _ _ c.move_vertex.ensures c.insert.ensures c.put.ensures
    c.requires.2 g.net_weights.now most c.get_or-key.result n.sum n.best n.count n.peak c.is_past_limit.result
    c.get_or-key.ensures c.counted.ensures.count c.counted.ensures.sums
    (c.is_past_limit.ensures ∙ ap (λ (z : ℕ). ltb (50 + z / 4) (n.count - n.peak)) c.vertex_count.ensures)
    e.new.keys e.new.stamps e.new.waiting e.new.draws e.ensures c.if-is_past_limit.false
    (e.auto.keys ∙ h.long.0, e.auto.stamps ∙ h.long.1, e.auto.waiting ∙ h.long.2)

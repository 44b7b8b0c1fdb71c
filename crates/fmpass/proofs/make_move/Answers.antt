use Rattle.std.proofs.Common.{ap, sym, ◌∙◌, ℕ, ◌+◌, ◌-◌, ◌/◌, ltb, length}
use lib.Ieee.{of_bits}
use Rattle.queue.specs.Queues.{keys_of, stamps_of, waits_of, key_at, long_as}
use Rattle.moves.specs.Split.{site_placed}
use Rattle.partition.specs.Layout.{place_of}
use Rattle.fmpass.specs.State.{lists_of, run_in}
use Rattle.fmpass.specs.Makes.{count_low, stamps_low, made_site, made_split, made_over, made_on}
use Rattle.fmpass.proofs.make_move.Goals as goal

pub counted-requires : goal.counted-requires
counted-requires c =
    let a = c.args in
    let g = a.layout.now in
    count_low g.nets g.vertices g.sides g.net_count g.vertex_weights.now (lists_of a.work.now a.entries.now) (run_in a.pass.now a.draws.now) c.requires.3 a.v c.requires.0 c.requires.1

pub enter_neighbours-requires : goal.enter_neighbours-requires
enter_neighbours-requires c =
    let a = c.args in
    let g = a.layout.now in
    let h = c.requires.3 in
    let vw = g.vertex_weights.now in
    let M = lists_of a.work.now a.entries.now in
    let R = run_in a.pass.now a.draws.now in (
      h.site.low.2,
      c.requires.0,
      site_placed _ (place_of g) _
          (made_site g.nets g.vertices g.sides g.net_count vw M R h a.v c.requires.0 c.requires.1 _ _ _ _ _ c.move_vertex.ensures c.insert.ensures c.put.ensures)
          (made_split g.nets g.vertices g.sides g.net_count vw M R h a.v c.requires.0 c.requires.1 _ _ _ _ _ c.move_vertex.ensures c.insert.ensures c.put.ensures),
      stamps_low g.nets g.vertices g.sides g.net_count vw M R h a.v c.requires.0 c.requires.1,
    )

pub returns-then-is_past_limit-clause-made : goal.returns-then-is_past_limit-clause-made
unfolding of_bits
returns-then-is_past_limit-clause-made c most =
    let a = c.args in
    let g = a.layout.now in
    let h = c.requires.3 in
    let vw = g.vertex_weights.now in
    let M = lists_of a.work.now a.entries.now in
    let R = run_in a.pass.now a.draws.now in
    let n = c.counted.new.self in
    made_over g.nets g.vertices g.sides g.net_count vw M R h a.v c.requires.0 c.requires.1 _ _ _ _ _ c.move_vertex.ensures c.insert.ensures c.put.ensures
    c.requires.2 g.net_weights.now most c.get_or-key.result.key n.sum n.best n.count n.peak c.is_past_limit.result
    (ap (λ e. e.key) c.get_or-key.ensures ∙ sym (key_at a.entries.now a.v)) c.counted.ensures.count c.counted.ensures.sums
    (c.is_past_limit.ensures ∙ ap (λ (z : ℕ). ltb (50 + z / 4) (n.count - n.peak)) c.vertex_count.ensures) c.if-is_past_limit.true

pub returns-clause-made : goal.returns-clause-made
unfolding of_bits
returns-clause-made c most =
    let a = c.args in
    let g = a.layout.now in
    let h = c.requires.3 in
    let vw = g.vertex_weights.now in
    let M = lists_of a.work.now a.entries.now in
    let R = run_in a.pass.now a.draws.now in
    let n = c.counted.new.self in
    let l = c.enter_neighbours.new.entries in
    made_on g.nets g.vertices g.sides g.net_count vw M R h a.v c.requires.0 c.requires.1 _ _ _ _ _ c.move_vertex.ensures c.insert.ensures c.put.ensures
    c.requires.2 g.net_weights.now most c.get_or-key.result.key n.sum n.best n.count n.peak c.is_past_limit.result
    (ap (λ e. e.key) c.get_or-key.ensures ∙ sym (key_at a.entries.now a.v)) c.counted.ensures.count c.counted.ensures.sums
    (c.is_past_limit.ensures ∙ ap (λ (z : ℕ). ltb (50 + z / 4) (n.count - n.peak)) c.vertex_count.ensures)
    (keys_of l) (stamps_of l) (waits_of l) c.enter_neighbours.new.draws c.enter_neighbours.ensures c.if-is_past_limit.false
    (long_as a.entries.now l (length vw) c.enter_neighbours.auto.entries h.long.0)

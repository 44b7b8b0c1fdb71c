use Rattle.std.proofs.Common.{◌≡◌, ◌≤◌, ◌+◌, ◌*◌, length}
use Rattle.fmpass.specs.State.{lists_apart, IsSameLoan, run_in}
use Rattle.fmpass.specs.Turns.{Runs}
use Rattle.fmpass.proofs.lists.run_pass.Given as goal

abbrev pub invariant-loop : goal.invariant-loop
invariant-loop l =
    let g = l.layout in
    let i = l.initial in
    (l.counter ≤ l.end) × (l.end ≡ (length g.vertex_weights.now + 1) * (length g.vertex_weights.now + 1)) × IsSameLoan i.work l.work
    × Runs g.net_weights.now g.vertex_weights.now l.most_weight g.nets g.vertices g.sides g.net_count (lists_apart i.work i.keys i.stamps i.waiting) (run_in i.pass i.draws)
    (lists_apart l.work l.keys l.stamps l.waiting) (run_in l.pass l.draws) l.counter

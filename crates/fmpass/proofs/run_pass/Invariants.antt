use Rattle.std.proofs.Common.{◌≡◌, ◌≤◌, ◌+◌, ◌*◌, length}
use Rattle.fmpass.specs.State.{lists_of, IsSameLoan, run_in}
use Rattle.fmpass.specs.Turns.{Runs}
use Rattle.fmpass.proofs.run_pass.Given as goal

abbrev pub invariant-loop : goal.invariant-loop
invariant-loop l =
    let g = l.layout in
    (l.counter ≤ l.end) × (l.end ≡ (length g.vertex_weights.now + 1) * (length g.vertex_weights.now + 1)) × IsSameLoan l.initial.work l.work
    × Runs g.net_weights.now g.vertex_weights.now l.most_weight g.nets g.vertices g.sides g.net_count (lists_of l.initial.work l.initial.entries) (run_in l.initial.pass l.initial.draws)
    (lists_of l.work l.entries) (run_in l.pass l.draws) l.counter

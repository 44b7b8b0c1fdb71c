use Rattle.std.proofs.Common.{◌≡◌, ◌≤◌, length, true}
use Rattle.moves.specs.Loans.{IsSameLoan}
use Rattle.refine.specs.Passes.{refined_as, Passes}
use Rattle.refine.proofs.all_passes.Given as goal

abbrev pub invariant-loop : goal.invariant-loop
invariant-loop l =
    let g = l.layout in
    (l.counter ≤ l.most) × IsSameLoan l.initial.split l.split
    × Passes g.net_weights.now g.vertex_weights.now g.nets g.vertices g.sides g.net_count l.most_weight l.most l.initial.split.words.now
    (refined_as l.initial.split.part.now l.initial.split.loads true l.initial.draws) l.split.words.now (refined_as l.split.part.now l.split.loads true l.draws) l.counter
    × (length l.entries ≡ length l.initial.entries) × (length l.moves ≡ length l.initial.moves)

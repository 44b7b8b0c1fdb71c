use Rattle.initial.specs.Least.{Best}
use Rattle.std.proofs.Common.{◌≡◌, length}
use Rattle.initial.proofs.initial.Given as goal

abbrev pub invariant-loop : goal.invariant-loop
invariant-loop l = Best l.layout.net_weights.now l.layout.vertex_weights.now l.layout.nets l.layout.vertices l.layout.sides l.layout.net_count l.most_weight l.initial.words l.initial.draws 8 l.words l.part l.best l.draws l.counter
    × (length l.part ≡ length l.initial.part) × (length l.trial ≡ length l.initial.trial)

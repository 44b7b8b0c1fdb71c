use Rattle.matching.specs.Choices.{choice_of, looked}
use Rattle.spec.specs.Hypergraph.{fold_over}
use Rattle.spec.specs.Floats.{zero_float}
use Rattle.std.proofs.Common.{◌≡◌, take}
use Rattle.std.specs.Prelude.{None}
use Rattle.matching.proofs.choose.Given as goal

abbrev pub invariant-loop-u : goal.invariant-loop-u
invariant-loop-u l = choice_of l.best.rating l.best.mate l.rating l.draws ≡ fold_over (looked l.vw l.limit l.v) (take l.u-index l.touched) (choice_of zero_float None l.initial.rating l.initial.draws)

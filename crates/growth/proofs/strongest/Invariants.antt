use Rattle.growth.specs.Links.{strong_in, strongest_in}
use Rattle.std.proofs.Common.{◌<◌, ◌≤◌, ◌≡◌, length, IfSome}
use Rattle.growth.proofs.strongest.Given as goal

abbrev pub invariant-loop-u : goal.invariant-loop-u
invariant-loop-u l = (l.u ≤ length l.links) × (strong_in l.best.link l.best.vertex l.draws ≡ strongest_in l.part l.links l.u l.initial.draws) × IfSome l.best.vertex (λ v. v < length l.links)

use Rattle.std.proofs.Common.{◌≡◌, ℕ, ◌<◌, length, get_or, take}
use Rattle.steps.specs.declared.Step.{Step}
use Rattle.steps.specs.Records.{step_at}
use Rattle.steps.proofs.put_steps.Given as goal

abbrev pub invariant-loop-i : goal.invariant-loop-i
invariant-loop-i l =
    (length l.place-items ≡ length (take l.n l.fn.steps))
    × ((k : ℕ) (d : Step) → k < l.i → get_or l.place-items k d ≡ step_at l.numbers k)

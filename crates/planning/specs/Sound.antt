-- What is printed is a refusal's line or a plan's text, and the printed steps run to the direct sum. Assumes nothing.
use Rattle.std.specs.Prelude.{◌≡◌, refl, List, ℕ, ◌≤◌, length, take, drop, Option, Result, Err, Ok}
use Rattle.std.proofs.Common.{sym, ap, ◌∙◌, subst, arith, take_at}
use Rattle.spec.specs.declared.Refusal.{Refusal}
use Rattle.spec.specs.Network.{Network, Sliceable}
use Rattle.spec.specs.Slicing.{Plan}
use Rattle.spec.specs.File.{Ask, plain, flagged, target, Contents, read_of}
use Rattle.spec.specs.Program.{flags_of, plan_of}
use Rattle.spec.specs.Output.{program_on, plan_bytes}
use Rattle.spec.specs.Memory.{over}
use Rattle.laws.specs.Integers.{ℤ_semiring}
use Rattle.laws.specs.FileLists.{over_front}
use Rattle.laws.specs.ProgramLaws.{plan_right, clear_fine, target_fine, flags_stand}
use Rattle.planning.specs.Output.{StepsSound, Prints}

-- given flags stand, and without them there is nothing to ask
given_fine : (N : Network) (given : Option (List ℕ)) (ask : Ask) (p : Plan) → plan_of N given ask ≡ Ok p → Sliceable N p.flag → Sliceable N (flags_of ask)
given_fine N given plain p e h = clear_fine N
given_fine N given (flagged l) p e h = subst (Sliceable N) (flags_stand N given l p e) h
given_fine N given (target w) p e h = target_fine N w

steps_sound : (N : Network) (given : Option (List ℕ)) (ask : Ask) (p : Plan) → plan_of N given ask ≡ Ok p → StepsSound N p
steps_sound N given ask p e fine two tables = (plan_right N given ask p e).runs (given_fine N given ask p e fine) two ℤ_semiring tables

by_plan : (file : List ℕ) (c : Contents) → read_of 254 256 file ≡ Ok c → (x : Result Plan Refusal) → plan_of c.network c.tree c.ask ≡ x → Prints file (plan_bytes file)
unfolding plan_bytes program_on
by_plan file c e (Err r) q = Prints.refuses r (rw (e, q)) (rw (e, q))
by_plan file c e (Ok p) q = Prints.plans c p e q (rw (e, q)) (steps_sound c.network c.tree c.ask p q)

by_reading : (file : List ℕ) (x : Result Contents Refusal) → read_of 254 256 file ≡ x → Prints file (plan_bytes file)
unfolding plan_bytes program_on
by_reading file (Err r) e = Prints.refuses r (rw e) (rw e)
by_reading file (Ok c) e = by_plan file c e (plan_of c.network c.tree c.ask) refl

-- WHAT IS PRINTED IS SOUND
pub prints : (file : List ℕ) → Prints file (plan_bytes file)
prints file = by_reading file (read_of 254 256 file) refl

-- so are the bytes that are handed out, in a list that they fit
pub handed_out : (file d out : List ℕ) (r : ℕ) → out ≡ over d (plan_bytes file) → r ≡ length (plan_bytes file) → r ≤ length d → Prints file (take r out)
handed_out file d out r e n fits =
    let b : List ℕ = plan_bytes file in
    let front : take r out ≡ b =
    ap (take r) (e ∙ over_front d b (omega (arith, n, fits))) ∙ take_at b (drop (length b) d) r (sym n) in
    subst (Prints file) (sym front) (prints file)

-- What is claimed of the program `plan`. Definitions only; proofs in ProgramLaws and FileFront of laws. Assumes nothing.
use Rattle.std.specs.Prelude.{true, false, List, ◌≡◌, ℕ, ◌≤◌, take, Option, Ok}
use Rattle.spec.specs.Semiring.{Semiring}
use Rattle.spec.specs.Network.{Network, leaf_count, Sliceable}
use Rattle.spec.specs.Tree.{valid, pairs_of}
use Rattle.spec.specs.Price.{listing, work}
use Rattle.spec.specs.RunClaims.{RunsToDirectSum}
use Rattle.spec.specs.Improve.{Improved}
use Rattle.spec.specs.Calls.{flag_at, total_is_beyond}
use Rattle.spec.specs.Slicing.{Plan}
use Rattle.spec.specs.SlicingClaims.{finished}
use Rattle.spec.specs.Program.{flags_of, tree_for, improve_for, plan_of}
use Rattle.spec.specs.File.{Ask, flagged, target}
use Rattle.spec.specs.FileClaims.{Bytes}
use Rattle.spec.specs.Output.{plan_bytes}

-- Whatever `plan` answers, its tree is valid. If the given flags, if any, are of indices that leaves name and that are no outputs, then so
-- are the answer's, and over two leaves or more the run of its listing gives the direct sum. (A file's flags may flag outputs, or indices
-- that no leaf names. They stand all the same, and nothing is said of the run.)
pub record PlanRight (N : Network) (ask : Ask) (p : Plan) : Type 1 where
  pub is_valid : valid (leaf_count N) p.tree ≡ true
  pub sliceable : Sliceable N (flags_of ask) → Sliceable N p.flag
  pub runs : Sliceable N (flags_of ask) → 2 ≤ leaf_count N → (R : Semiring) (cells : ℕ → List ℕ → R.Car)
      → RunsToDirectSum R N cells p.flag p.tree (listing N p.flag p.tree)

abbrev pub AnswersRight : Type 1
AnswersRight =
    (N : Network) (given : Option (List ℕ)) (ask : Ask) (p : Plan) → plan_of N given ask ≡ Ok p → PlanRight N ask p

-- `plan` refuses only as greedy, and improvement of the tree that it starts from, do: slicing adds no refusal
abbrev pub NoMoreRefusals : Type 0
NoMoreRefusals =
    (N : Network) (given : Option (List ℕ)) (ask : Ask) (kids : List ℕ) (d : Improved) → tree_for N given ≡ Ok kids
    → improve_for N ask kids ≡ Ok d → (p : Plan) × (plan_of N given ask ≡ Ok p)

-- "The total never rises": the plan's total is at most that of the tree it starts from, under the given flags
abbrev pub TotalNeverRises : Type 0
TotalNeverRises =
    (N : Network) (given : Option (List ℕ)) (ask : Ask) (kids : List ℕ) (p : Plan) → tree_for N given ≡ Ok kids
    → plan_of N given ask ≡ Ok p → work (listing N p.flag p.tree) ≤ work (listing N (flags_of ask) (pairs_of kids))

-- so no plan's total is beyond
abbrev pub NoneBeyond : Type 0
NoneBeyond =
    (N : Network) (given : Option (List ℕ)) (ask : Ask) (p : Plan) → plan_of N given ask ≡ Ok p
    → total_is_beyond N p.flag p.tree ≡ false

-- given flags stand
abbrev pub FlagsStand : Type 0
FlagsStand =
    (N : Network) (given : Option (List ℕ)) (l : List ℕ) (p : Plan) → plan_of N given (flagged l) ≡ Ok p
    → p.flag ≡ flag_at l

-- with a target, the widest table is within it or no candidate is left
abbrev pub TargetOrNoCandidate : Type 0
TargetOrNoCandidate =
    (N : Network) (given : Option (List ℕ)) (w : ℕ) (p : Plan) → plan_of N given (target w) ≡ Ok p → finished N w p ≡ true

-- 131,072 bytes of input decide what is printed: the program reads no more
abbrev pub InputDecides : Type 0
InputDecides = (file : List ℕ) → Bytes file → plan_bytes (take 131072 file) ≡ plan_bytes file

-- What is promised of the bytes that the program `plan` prints for a file. Definitions only. Assumes nothing.
use Rattle.std.specs.Prelude.{◌≡◌, List, ℕ, ◌≤◌, Err, Ok}
use Rattle.spec.specs.Refusal.{number_of}
use Rattle.spec.specs.declared.Refusal.{Refusal}
use Rattle.spec.specs.Network.{Network, leaf_count, Sliceable}
use Rattle.spec.specs.RunClaims.{RunsToDirectSum}
use Rattle.spec.specs.Slicing.{Plan}
use Rattle.spec.specs.File.{Contents, read_of}
use Rattle.spec.specs.Program.{plan_of, printed}
use Rattle.spec.specs.Text.{plan_text, refused_line}
use Rattle.spec.specs.Output.{program_on}
use Rattle.laws.specs.Integers.{ℤ_semiring}

-- For flagged indices that leaves name and that are no outputs, and two leaves or more: the run of the printed steps gives the direct sum,
-- whatever whole numbers the tables hold.
abbrev pub StepsSound : Network → Plan → Type 0
StepsSound N p =
    Sliceable N p.flag → 2 ≤ leaf_count N → (tables : ℕ → List ℕ → ℤ_semiring.Car)
    → RunsToDirectSum ℤ_semiring N tables p.flag p.tree (printed N p).steps

-- the bytes are the line of the file's refusal, or the text of a plan of what the file has, and its steps are sound
pub data Prints (file bytes : List ℕ) : Type 0 where
  refuses : (r : Refusal) → program_on file ≡ Err r → bytes ≡ refused_line (number_of r) → Prints file bytes
  plans : (c : Contents) (p : Plan) → read_of 254 256 file ≡ Ok c → plan_of c.network c.tree c.ask ≡ Ok p
      → bytes ≡ plan_text (printed c.network p) → StepsSound c.network p → Prints file bytes

-- What the program `plan` prints for a file, from bytes to bytes. Definitions only. Assumes nothing.
use Rattle.std.specs.Prelude.{List, ℕ, Result}
use Rattle.spec.specs.Refusal.{and_then}
use Rattle.spec.specs.declared.Refusal.{Refusal}
use Rattle.spec.specs.File.{read_of}
use Rattle.spec.specs.Program.{Printed, program}
use Rattle.spec.specs.Text.{output_of}

-- "Program `plan` reads a network file from standard input, takes the given tree or greedy's, improves it (k = 8, four passes, the given flags,
-- no limit), slices to a target with improvement, and prints." 254 places for a tree and 256 for flags are room for every file.
unfoldable pub program_on : List ℕ → Result Printed Refusal
program_on file = and_then (read_of 254 256 file) λ c. program c.network c.tree c.ask

unfoldable pub plan_bytes : List ℕ → List ℕ
plan_bytes file = output_of (program_on file)

-- What the program `plan` writes: the bytes of its lines. Definitions only. Assumes nothing.
use Rattle.std.specs.Prelude.{cond, List, [], ◌∷◌, ◌++◌, ℕ, zero, suc, ◌+◌, ◌/◌, ◌%◌, ltb, Option, None, Some, Result, Err, Ok}
use Rattle.spec.specs.declared.Total.{Total}
use Rattle.spec.specs.declared.Total.TheVariants.{Exact, Beyond}
use Rattle.spec.specs.declared.Refusal.{Refusal}
use Prim.Native.Char.{code}
use Prim.Native.String.{String, [] as none_left, ◌∷◌ as ◌then◌}
use Rattle.spec.specs.Price.{Step}
use Rattle.spec.specs.Refusal.{number_of}
use Rattle.spec.specs.Program.{Printed}

-- the bytes of an ASCII text
abbrev pub ascii : String → List ℕ
ascii none_left = []
ascii (c then s) = code c ∷ ascii s

-- the last n decimal digits of x or, where it has fewer, all of them; the digit 0 is the byte 48
unfoldable pub last_digits : ℕ → ℕ → List ℕ
last_digits zero x = []
last_digits (suc n) x =
    let higher = last_digits n (x / 10) in
    cond (ltb x 10) ((48 + x) ∷ []) (higher ++ ((48 + x % 10) ∷ []))

-- a number in decimal: it has no more than x + 1 digits
unfoldable pub decimal : ℕ → List ℕ
decimal x = last_digits (x + 1) x

-- numbers, a space before each
unfoldable pub spaced : List ℕ → List ℕ
spaced [] = []
spaced (x ∷ l) = 32 ∷ (decimal x ++ spaced l)

-- a line: its word, its numbers, a line feed
abbrev pub line_of : List ℕ → List ℕ → List ℕ
line_of word numbers = word ++ (spaced numbers ++ (10 ∷ []))

abbrev pub line : String → List ℕ → List ℕ
line word numbers = line_of (ascii word) numbers

-- the lines of a list's members
unfoldable pub lines_of : {A : Type 0} → (A → List ℕ) → List A → List ℕ
lines_of f [] = []
lines_of f (x ∷ l) = f x ++ lines_of f l

-- "Line plan: leaves, indices."
abbrev pub plan_line : ℕ → ℕ → List ℕ
plan_line leaves indices = line "plan" (leaves ∷ indices ∷ [])

-- "Step: node, left, right, work bits, size bits, kept indices rising."
abbrev pub step_line : Step → List ℕ
step_line c = line "step" (c.made ∷ c.left ∷ c.right ∷ c.work_bits ∷ c.size_bits ∷ c.list)

-- No plan's total is beyond: improvement refuses 10 first, and no total rises (`NoneBeyond`).
abbrev pub total_line : Total → List ℕ
total_line (Exact x) = line "total" (x ∷ [])
total_line Beyond = line "total beyond" []

-- "Without leaves, widest prints "-"."
abbrev pub widest_line : Option ℕ → List ℕ
widest_line None = line "widest -" []
widest_line (Some x) = line "widest" (x ∷ [])

abbrev pub slice_line : ℕ → List ℕ
slice_line j = line "slice" (j ∷ [])

-- "One slice line per sliced index; bits is slice bits; improved and splits are sums over all passes"
unfoldable pub plan_text : Printed → List ℕ
plan_text p =
    plan_line p.leaves p.indices
    ++ (lines_of step_line p.steps
    ++ (total_line p.total
    ++ (widest_line p.widest
    ++ (lines_of slice_line p.slices
    ++ (line "bits" (p.bits ∷ []) ++ (line "improved" (p.improved ∷ []) ++ line "splits" (p.splits ∷ [])))))))

-- "A refusal prints only `refused` and its number."
abbrev pub refused_line : ℕ → List ℕ
refused_line number = line "refused" (number ∷ [])

abbrev pub output_of : Result Printed Refusal → List ℕ
output_of (Err r) = refused_line (number_of r)
output_of (Ok p) = plan_text p

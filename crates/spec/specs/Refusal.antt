-- The refusals, one data type, with their numbers and words; checks in order; answers. Definitions only. Assumes nothing.
use Rattle.std.specs.Prelude.{Bool, true, false, cond, List, [], ◌∷◌, ℕ, Option, None, Some, Result, Ok, Err}
use Rattle.spec.specs.declared.Refusal.{Refusal}
use Rattle.spec.specs.declared.Refusal.TheVariants.{Truncated, WrongTag, TooLarge, Overweight, OutOfRange, Repeated, ShortBuffer, InvalidTree, InvalidFlags, TotalBeyond, DanglingIndex, TableTooWide, DrawsExhausted}
use Prim.Native.String.{String}

-- The refusals themselves are a type of src/, which the code speaks of too; each has a number, and a word in printed text.

abbrev pub number_of : Refusal → ℕ
number_of Truncated = 1
number_of WrongTag = 2
number_of TooLarge = 3
number_of Overweight = 4
number_of OutOfRange = 5
number_of Repeated = 6
number_of ShortBuffer = 7
number_of InvalidTree = 8
number_of InvalidFlags = 9
number_of TotalBeyond = 10
number_of DanglingIndex = 11
number_of TableTooWide = 12
number_of DrawsExhausted = 13

abbrev pub word : Refusal → String
word Truncated = "short"
word WrongTag = "tag"
word TooLarge = "large"
word Overweight = "weight"
word OutOfRange = "stray"
word Repeated = "twice"
word ShortBuffer = "bench"
word InvalidTree = "tree"
word InvalidFlags = "flag"
word TotalBeyond = "dear"
word DanglingIndex = "loose"
word TableTooWide = "wide"
word DrawsExhausted = "spent"

-- the number that is handed out: 0 for none
abbrev pub code_of : Option Refusal → ℕ
code_of None = 0
code_of (Some r) = number_of r

-- ---- checks ----

-- a condition, and the refusal that it brings
pub record Check : Type 0 where
  pub holds : Bool
  pub gives : Refusal

abbrev pub check : Bool → Refusal → Check
check b r = record { holds = b; gives = r }

-- "Other calls check by number": the first condition that holds decides
abbrev pub first : List Check → Option Refusal
first [] = None
first (c ∷ cs) =
    let rest = first cs in
    cond c.holds (Some c.gives) rest

-- no condition holds
abbrev pub passes : Option Refusal → Bool
passes None = true
passes (Some r) = false

-- ---- answers ----

-- An answer, or a refusal, which returns only its number: std's `Result`.

abbrev pub and_then : {A B : Type 0} → Result A Refusal → (A → Result B Refusal) → Result B Refusal
and_then (Err k) f = Err k
and_then (Ok x) f = f x

-- the refusal, if there is one; else the answer
abbrev pub decide : {A : Type 0} → Option Refusal → Result A Refusal → Result A Refusal
decide None x = x
decide (Some r) x = Err r

-- the answer, unless a condition holds: then the first one's refusal
abbrev pub checked : {A : Type 0} → List Check → Result A Refusal → Result A Refusal
checked cs x = decide (first cs) x

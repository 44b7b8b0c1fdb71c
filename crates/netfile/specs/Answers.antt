-- The reader's answers: for each case its number and values, and what the two lists have afterwards. Definitions only. Assumes nothing.
use Rattle.std.specs.Prelude.{List, [], ℕ, length, Option, None, Some, Result, Err, Ok}
use Rattle.spec.specs.declared.Refusal.{Refusal}
use Rattle.spec.specs.Network.{Network}
use Rattle.spec.specs.File.{Ask, plain, flagged, target, Contents, tree_written, flags_written}
use Rattle.netfile.specs.declared.Ask.{Ask as Asked}
use Rattle.netfile.specs.declared.Ask.TheVariants.{Plain, Flagged, Target}
use Rattle.netfile.specs.declared.Given.{Given}

-- how many places the tree's children fill
abbrev pub places_in : Option (List ℕ) → Option ℕ
places_in None = None
places_in (Some kids) = Some (length kids)

abbrev pub ask_answer : Ask → Asked
ask_answer plain = Plain
ask_answer (flagged l) = Flagged (length l)
ask_answer (target w) = Target w

-- how many places of the flags' list the file fills with its own
abbrev pub flag_count : Asked → ℕ
flag_count Plain = 0
flag_count (Flagged n) = n
flag_count (Target w) = 0

abbrev pub given_in : Option (List ℕ) → Ask → Given
given_in tree ask = record { tree = places_in tree; ask = ask_answer ask }

-- the reader's answer: what the contents have beside their network, or the refusal
abbrev pub given_of : Result Contents Refusal → Result Given Refusal
given_of (Err r) = Err r
given_of (Ok c) = Ok (given_in c.tree c.ask)

abbrev pub empty_network : Network
empty_network = record { leaves = []; outputs = []; weights = [] }

abbrev pub network_in : Result Contents Refusal → Network
network_in (Err r) = empty_network
network_in (Ok c) = c.network

-- "Trees, flags, listings and output lists are then unchanged"
abbrev pub tree_after : Result Contents Refusal → List ℕ → List ℕ
tree_after (Err r) l = l
tree_after (Ok c) l = tree_written c l

abbrev pub flags_after : Result Contents Refusal → List ℕ → List ℕ
flags_after (Err r) l = l
flags_after (Ok c) l = flags_written c l

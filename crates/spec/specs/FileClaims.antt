-- What is claimed of the network file. Definitions only; proofs in FileReads, FileBytes, FileWrites, FileLists, FileDecisions, FileFront,
-- FileLongest and FileSamples of laws. Assumes nothing.
use Rattle.std.specs.Prelude.{true, false, not, cond, List, [], ◌∷◌, ◌++◌, map, ◌↔◌, ◌≡◌, ℕ, suc, ◌+◌, ◌-◌, ◌*◌, ◌%◌, ◌≤◌, ◌<◌, eqb, length, get_or, take, drop, Option, None, Some, Result, Err, Ok}
use Rattle.spec.specs.declared.Refusal.{Refusal}
use Rattle.spec.specs.declared.Refusal.TheVariants.{Truncated, WrongTag, TooLarge, OutOfRange, Repeated, ShortBuffer}
use Rattle.spec.specs.Lists.{memb, from}
use Rattle.spec.specs.Members.{All}
use Rattle.spec.specs.Refusal.{number_of, code_of, Check, check, first}
use Rattle.spec.specs.Network.{Network, leaf_count, index_count, max_leaves, max_legs, max_outputs, repeats, any_out_of_range, accepted}
use Rattle.spec.specs.Tree.{valid, pairs_of}
use Rattle.spec.specs.Calls.{tree_places, tree_check, flags_check, flag_at}
use Rattle.spec.specs.CallClaims.{numbers_of}
use Rattle.spec.specs.File.{Ask, plain, flagged, target, Contents, field, file_of, allowed, may_end, Reading, weights_checks, leaf_checks, outputs_checks, take_field, read_fields, nothing_read, read_of, tree_written, flags_written, write_checks, write_of, buffer_after}

-- ---- the format, stated without a reader ----

abbrev pub Bytes : List ℕ → Type 0
Bytes l = All (λ b. b < 256) l

abbrev pub LawfulTree : Network → Option (List ℕ) → Type 0
LawfulTree N None = Unit {0}
LawfulTree N (Some kids) = (length kids % 2 ≡ 0) × (valid (leaf_count N) (pairs_of kids) ≡ true)

abbrev pub LawfulAsk : Network → Ask → Type 0
LawfulAsk N plain = Unit {0}
LawfulAsk N (flagged l) = (length l ≤ index_count N) × All (λ b. b ≤ 1) l
LawfulAsk N (target w) = w < 256

-- an accepted network; its tree, if there is one, valid; flags 0 or 1 and no more than indices; a target of one byte
pub record Lawful (c : Contents) : Type 0 where
  pub network : accepted c.network ≡ true
  pub tree : LawfulTree c.network c.tree
  pub ask : LawfulAsk c.network c.ask

-- the files of the format
abbrev pub InFormat : List ℕ → Type 0
InFormat file = (c : Contents) × Lawful c × (file ≡ file_of c)

-- the lists that are lent have room for what the contents fill
abbrev pub RoomForTree : Network → ℕ → Option (List ℕ) → Type 0
RoomForTree N places None = Unit {0}
RoomForTree N places (Some kids) = tree_places N ≤ places

abbrev pub RoomForFlags : Network → ℕ → Ask → Type 0
RoomForFlags N flag_places plain = Unit {0}
RoomForFlags N flag_places (flagged l) = index_count N ≤ flag_places
RoomForFlags N flag_places (target w) = Unit {0}

abbrev pub Room : ℕ → ℕ → Contents → Type 0
Room places flag_places c = RoomForTree c.network places c.tree × RoomForFlags c.network flag_places c.ask

-- ---- reading and writing ----

-- what is written is read back
abbrev pub WrittenThenRead : Type 0
WrittenThenRead =
    (places flag_places : ℕ) (c : Contents) → Lawful c → Room places flag_places c → read_of places flag_places (file_of c) ≡ Ok c

-- a file of bytes is read as c exactly if it is the file of c, c is lawful, and the lists have room
abbrev pub ReadsJust : Type 0
ReadsJust =
    (places flag_places : ℕ) (file : List ℕ) (c : Contents) → Bytes file
    → (read_of places flag_places file ≡ Ok c) ↔ (Lawful c × Room places flag_places c × (file ≡ file_of c))

-- with lists that are long enough for every network the reader accepts the files of the format and no others
abbrev pub AcceptsFormat : Type 0
AcceptsFormat =
    (places flag_places : ℕ) (file : List ℕ) → 254 ≤ places → 256 ≤ flag_places → Bytes file
    → ((c : Contents) × (read_of places flag_places file ≡ Ok c)) ↔ InFormat file

-- 7 exactly if the file is in the format and a list that it fills is too short
abbrev pub NoRoom : Type 0
NoRoom =
    (places flag_places : ℕ) (file : List ℕ) → Bytes file
    → (read_of places flag_places file ≡ Err ShortBuffer) ↔ ((c : Contents) × Lawful c × (file ≡ file_of c) × (Room places flag_places c → ⊥))

-- the file of lawful contents is one of bytes, and says what the contents are
abbrev pub FilesAreBytes : Type 0
FilesAreBytes = (c : Contents) → Lawful c → Bytes (file_of c)

abbrev pub OneMeaning : Type 0
OneMeaning = (c d : Contents) → Lawful c → Lawful d → file_of c ≡ file_of d → c ≡ d

-- the writer's answer, for contents whose target, if any, is a byte
abbrev pub TargetIsByte : Ask → Type 0
TargetIsByte plain = Unit {0}
TargetIsByte (flagged l) = Unit {0}
TargetIsByte (target w) = w < 256

abbrev pub WritesLawful : Type 0
WritesLawful =
    (c : Contents) (size cursor next : ℕ) → TargetIsByte c.ask
    → (write_of c size cursor ≡ Ok next) ↔ (Lawful c × (next ≡ cursor + length (file_of c)) × (next ≤ size))

-- "An accepted file read and then written gives the same bytes, index order in each leaf included." The bytes go from the cursor on, and
-- all others stay.
pub record Rewritten (file : List ℕ) (c : Contents) : Type 0 where
  pub same : file_of c ≡ file
  pub answer : (size cursor : ℕ) → cursor + length file ≤ size → write_of c size cursor ≡ Ok (cursor + length file)
  pub buffer : (out : List ℕ) (cursor : ℕ) → cursor + length file ≤ length out
      → buffer_after c cursor (write_of c (length out) cursor) out ≡ take cursor out ++ (file ++ drop (cursor + length file) out)

abbrev pub ReadThenWritten : Type 0
ReadThenWritten =
    (places flag_places : ℕ) (file : List ℕ) (c : Contents) → Bytes file → read_of places flag_places file ≡ Ok c → Rewritten file c

-- what the writer writes is read back: the bytes from its cursor to where it ends, with lists that are long enough for every network
abbrev pub WriterThenReader : Type 0
WriterThenReader =
    (places flag_places : ℕ) (c : Contents) (out : List ℕ) (cursor next : ℕ) → 254 ≤ places → 256 ≤ flag_places → TargetIsByte c.ask
    → write_of c (length out) cursor ≡ Ok next
    → read_of places flag_places (take (next - cursor) (drop cursor (buffer_after c cursor (write_of c (length out) cursor) out))) ≡ Ok c

-- a refusal leaves the buffer as it is
abbrev pub BufferStays : Type 0
BufferStays =
    (c : Contents) (cursor : ℕ) (out : List ℕ) (r : Refusal) → write_of c (length out) cursor ≡ Err r
    → buffer_after c cursor (write_of c (length out) cursor) out ≡ out

-- ---- the lists that the reader fills ----

-- the tree's list starts with the file's tree, if it has one, and all else stays
abbrev pub TreeLeft : Option (List ℕ) → List ℕ → List ℕ → Type 0
TreeLeft None list after = after ≡ list
TreeLeft (Some kids) list after = after ≡ kids ++ drop (length kids) list

-- of m indices each has the byte that the file's flags f give it, or 0, and so is flagged just if f flags it; all else stays
pub record FlagsSet (m : ℕ) (f list after : List ℕ) : Type 0 where
  pub byte : (j : ℕ) → j < m → get_or after j 0 ≡ get_or f j 0
  pub test : (j : ℕ) → j < m → flag_at after j ≡ flag_at f j
  pub past : drop m after ≡ drop m list
  pub length : length after ≡ length list

abbrev pub FlagsLeft : ℕ → Ask → List ℕ → List ℕ → Type 0
FlagsLeft m plain list after = after ≡ list
FlagsLeft m (flagged f) list after = FlagsSet m f list after
FlagsLeft m (target w) list after = after ≡ list

abbrev pub FillsLists : Type 0
FillsLists =
    (kids flags file : List ℕ) (c : Contents) → Bytes file → read_of (length kids) (length flags) file ≡ Ok c
    → TreeLeft c.tree kids (tree_written c kids) × FlagsLeft (index_count c.network) c.ask flags (flags_written c flags)

-- ---- "The file is checked field by field": the first condition that holds decides ----

-- what the reader answers from a place of the file on
abbrev pub read_from : Reading → List ℕ → Result Contents Refusal
read_from s bytes = read_fields (suc (length bytes)) s bytes

-- the bytes are whole fields, each allowed at its place and taken, which lead from one state to another
pub data ReadWell : Reading → List ℕ → Reading → Type 0 where
  none_left : {s : Reading} → ReadWell s [] s
  one_more : {s s' s'' : Reading} {bytes : List ℕ} (t : ℕ) (l : List ℕ) → allowed s.due t ≡ true → take_field s t l ≡ Ok s' → ReadWell s' bytes s''
      → ReadWell s (field t l ++ bytes) s''

-- fields that are read well leave the decision to the rest of the file
abbrev pub RestDecides : Type 0
RestDecides = (s s' : Reading) (fields rest : List ℕ) → ReadWell s fields s' → read_from s (fields ++ rest) ≡ read_from s' rest

-- the next field: three header bytes, else 1; then the tag, else 2; then the payload all there, else 1; then the payload's own conditions
pub record NextField (s : Reading) : Type 0 where
  pub ended : read_from s [] ≡ cond (may_end s.due) (Ok s.read) (Err Truncated)
  pub one_byte : (t : ℕ) → read_from s (t ∷ []) ≡ Err Truncated
  pub two_bytes : (t high : ℕ) → read_from s (t ∷ high ∷ []) ≡ Err Truncated
  pub tag : (t high low : ℕ) (bytes : List ℕ) → allowed s.due t ≡ false → read_from s (t ∷ high ∷ low ∷ bytes) ≡ Err WrongTag
  pub payload : (t high low : ℕ) (bytes : List ℕ) → allowed s.due t ≡ true → length bytes < high * 256 + low
      → read_from s (t ∷ high ∷ low ∷ bytes) ≡ Err Truncated
  pub own : (t high low : ℕ) (bytes : List ℕ) (r : Refusal) → allowed s.due t ≡ true → high * 256 + low ≤ length bytes
      → take_field s t (take (high * 256 + low) bytes) ≡ Err r → read_from s (t ∷ high ∷ low ∷ bytes) ≡ Err r

abbrev pub DecidesInOrder : Type 0
DecidesInOrder = (s : Reading) → NextField s

-- the refusal, if it is one
abbrev pub refusal_in : {A : Type 0} → Result A Refusal → Option Refusal
refusal_in (Err r) = Some r
refusal_in (Ok x) = None

-- it is refused by the first of these conditions that holds, and they have these numbers
abbrev pub RefusedBy : {A : Type 0} → Result A Refusal → List Check → List ℕ → Type 0
RefusedBy x cs numbers = (refusal_in x ≡ first cs) × (numbers_of cs ≡ numbers)

-- the same numbers once for each byte
abbrev pub for_each : List ℕ → List ℕ → List ℕ
for_each numbers [] = []
for_each numbers (b ∷ l) = numbers ++ for_each numbers l

-- the conditions on a payload by its tag: "length and leaf count, then bytes left to right; 8 for a tree that is not valid"
pub record PayloadNumbers (s : Reading) (l : List ℕ) : Type 0 where
  pub weights : RefusedBy (take_field s 1 l) (weights_checks l) (3 ∷ 4 ∷ [])
  pub leaf : RefusedBy (take_field s 2 l) (leaf_checks s.read.network l) (3 ∷ for_each (5 ∷ 6 ∷ []) l)
  pub outputs : RefusedBy (take_field s 3 l) (outputs_checks s.read.network l) (3 ∷ for_each (5 ∷ 6 ∷ []) l)
  pub tree : RefusedBy (take_field s 4 l) (tree_check s.read.network l ∷ []) (8 ∷ [])
  pub flags : RefusedBy (take_field s 5 l) (flags_check s.read.network l ∷ []) (9 ∷ [])
  pub target : RefusedBy (take_field s 6 l) (check (not (eqb (length l) 1)) TooLarge ∷ []) (3 ∷ [])

abbrev pub PayloadsInOrder : Type 0
PayloadsInOrder = (s : Reading) (l : List ℕ) → PayloadNumbers s l

-- In a payload of indices, a leaf's or the outputs', the first that is out of range, or repeats one before it, decides, whatever follows:
-- the indices before it, `good`, are in range, and none of them repeats.
pub record FirstWrong (s : Reading) (tag : ℕ) (good : List ℕ) (j : ℕ) (rest : List ℕ) : Type 0 where
  pub range : index_count s.read.network ≤ j → take_field s tag (good ++ (j ∷ rest)) ≡ Err OutOfRange
  pub again : memb j good ≡ true → take_field s tag (good ++ (j ∷ rest)) ≡ Err Repeated

-- for a leaf (02) and for the outputs (03), length and leaf count being within their limits
pub record WrongIndices (s : Reading) (good : List ℕ) (j : ℕ) (rest : List ℕ) : Type 0 where
  pub leaf : length (good ++ (j ∷ rest)) ≤ max_legs → leaf_count s.read.network < max_leaves → FirstWrong s 2 good j rest
  pub outputs : length (good ++ (j ∷ rest)) ≤ max_outputs → FirstWrong s 3 good j rest

abbrev pub LeftToRight : Type 0
LeftToRight =
    (s : Reading) (good : List ℕ) (j : ℕ) (rest : List ℕ) → any_out_of_range (index_count s.read.network) good ≡ false → repeats good ≡ false
    → WrongIndices s good j rest

-- "7, for lists the reader fills, at the file's end"
abbrev pub ListsLast : Type 0
ListsLast =
    (places flag_places : ℕ) (file : List ℕ) (r : Refusal) → read_from nothing_read file ≡ Err r → read_of places flag_places file ≡ Err r

-- no bytes that follow change a refusal by 2, 3, 4, 5, 6, 8 or 9
abbrev pub StaysRefused : Type 0
StaysRefused =
    (places flag_places : ℕ) (file more : List ℕ) (r : Refusal) → memb (number_of r) (2 ∷ 3 ∷ 4 ∷ 5 ∷ 6 ∷ 8 ∷ 9 ∷ []) ≡ true
    → read_of places flag_places file ≡ Err r → read_of places flag_places (file ++ more) ≡ Err r

-- A file's first 70,569 bytes decide what is read, whatever follows: fields that are read well take at most 259 (weights), 128 times 35
-- (leaves), 35 (outputs) and 257 (tree), and the field that decides has a header of 3 and a payload of at most 65,535.
abbrev pub deciding_bytes : ℕ
deciding_bytes = 259 + 128 * 35 + 35 + 257 + 3 + 65535

abbrev pub FrontDecides : Type 0
FrontDecides =
    (places flag_places n : ℕ) (file : List ℕ) → Bytes file → deciding_bytes ≤ n
    → read_of places flag_places (take n file) ≡ read_of places flag_places file

-- and one byte fewer does not
abbrev pub NoFewerDecide : Type 0
NoFewerDecide = (file : List ℕ) × Bytes file × (read_of 254 256 (take (deciding_bytes - 1) file) ≡ read_of 254 256 file → ⊥)

-- the reader refuses by no other numbers than 1 to 9, and by each of them
abbrev pub RefusesUpTo9 : Type 0
RefusesUpTo9 = (places flag_places : ℕ) (file : List ℕ) (r : Refusal) → read_of places flag_places file ≡ Err r → number_of r ≤ 9

abbrev pub EachReached : Type 0
EachReached = (files : List (List ℕ)) × All Bytes files × (map (λ l. code_of (refusal_in (read_of 0 0 l))) files ≡ from 1 9)

-- the writer: "Other calls check by number"; 8 only with a tree, 9 only with flags
abbrev pub if_tree : Option (List ℕ) → List ℕ
if_tree None = []
if_tree (Some kids) = 8 ∷ []

abbrev pub if_flags : Ask → List ℕ
if_flags plain = []
if_flags (flagged l) = 9 ∷ []
if_flags (target w) = []

abbrev pub WriterByNumber : Type 0
WriterByNumber =
    (c : Contents) (size cursor : ℕ) → RefusedBy (write_of c size cursor) (write_checks c size cursor) (from 3 5 ++ (if_tree c.tree ++ if_flags c.ask))

-- The network file: its fields, what a reader answers, what a writer writes. Definitions only. Assumes nothing.
use Rattle.std.specs.Prelude.{Bool, true, false, not, ◌||◌, cond, List, [], ◌∷◌, ◌++◌, ℕ, zero, suc, ◌+◌, ◌-◌, ◌*◌, ◌/◌, ◌%◌, eqb, ltb, leb, length, take, drop, Option, None, Some, Result, Err, Ok}
use Rattle.spec.specs.declared.Refusal.{Refusal}
use Rattle.spec.specs.declared.Refusal.TheVariants.{Truncated, WrongTag, TooLarge, Overweight, OutOfRange, Repeated}
use Rattle.spec.specs.Lists.{memb, anyb}
use Rattle.spec.specs.Memory.{filled, placed}
use Rattle.spec.specs.Refusal.{Check, check, first, and_then, checked}
use Rattle.spec.specs.Network.{Network, leaf_count, index_count, max_leaves, max_indices, max_legs, max_outputs, max_weight, network_checks}
use Rattle.spec.specs.Calls.{Lent, lent, length_check, tree_places, tree_check, flags_check}

-- what a file may ask: nothing more, given flags, or a target: "then optionally one of 05 flags (bytes 0 or 1) and 06 target (one byte)"
pub data Ask : Type 0 where
  plain : Ask
  flagged : List ℕ → Ask
  target : ℕ → Ask

-- what a file has: the network; the tree's flat list of children, if there is one; what it asks
pub record Contents : Type 0 where
  pub network : Network
  pub tree : Option (List ℕ)
  pub ask : Ask

-- the given flags; those that no field gives are clear
abbrev pub flag_bytes : Ask → List ℕ
flag_bytes plain = []
flag_bytes (flagged l) = l
flag_bytes (target w) = []

-- the given tree: none is a tree with no node
abbrev pub tree_bytes : Option (List ℕ) → List ℕ
tree_bytes None = []
tree_bytes (Some kids) = kids

-- ---- the file of some contents ----

-- "fields of a tag byte, a two-byte length (high byte first), a payload"
abbrev pub field : ℕ → List ℕ → List ℕ
field tag payload = tag ∷ length payload / 256 ∷ length payload % 256 ∷ payload

-- "02 one leaf, a byte an index, repeated per leaf"
abbrev pub leaf_fields : List (List ℕ) → List ℕ
leaf_fields [] = []
leaf_fields (l ∷ ls) = field 2 l ++ leaf_fields ls

-- "optional 04 tree, two bytes a node"
abbrev pub tree_field : Option (List ℕ) → List ℕ
tree_field None = []
tree_field (Some kids) = field 4 kids

abbrev pub ask_field : Ask → List ℕ
ask_field plain = []
ask_field (flagged l) = field 5 l
ask_field (target w) = field 6 (w ∷ [])

-- the fields "in this order"; "01 and 03 stand once and may be empty"
unfoldable pub file_of : Contents → List ℕ
file_of c =
    field 1 c.network.weights
    ++ (leaf_fields c.network.leaves ++ (field 3 c.network.outputs ++ (tree_field c.tree ++ ask_field c.ask)))

-- ---- reading ----

-- what is due: the weights; leaves or the outputs; the tree, flags or target; flags or target; nothing
pub data Due : Type 0 where
  weights_due : Due
  leaves_due : Due
  tree_due : Due
  ask_due : Due
  end_due : Due

-- "a tag not allowed at its place" is the contrary
abbrev pub allowed : Due → ℕ → Bool
allowed weights_due t = eqb t 1
allowed leaves_due t = eqb t 2 || eqb t 3
allowed tree_due t = eqb t 4 || (eqb t 5 || eqb t 6)
allowed ask_due t = eqb t 5 || eqb t 6
allowed end_due t = false

-- "the file before 03, ends early" is the contrary
abbrev pub may_end : Due → Bool
may_end weights_due = false
may_end leaves_due = false
may_end tree_due = true
may_end ask_due = true
may_end end_due = true

-- what was read so far, and what is due
pub record Reading : Type 0 where
  pub due : Due
  pub read : Contents

-- ---- the conditions on a field, in their order ----

-- of a field with tag t that says n bytes, where `there` are left: "header, tag, payload all there"
abbrev pub header_checks : Due → ℕ → ℕ → ℕ → List Check
header_checks due t n there = check (not (allowed due t)) WrongTag ∷ check (ltb there n) Truncated ∷ []

-- "length and leaf count, then bytes left to right"
abbrev pub weights_checks : List ℕ → List Check
weights_checks l = check (ltb max_indices (length l)) TooLarge ∷ check (anyb (λ w. ltb max_weight w) l) Overweight ∷ []

-- the indices of a leaf, or the outputs: not below the index count m, or named before
abbrev pub index_checks : ℕ → List ℕ → List ℕ → List Check
index_checks m before [] = []
index_checks m before (j ∷ l) = check (leb m j) OutOfRange ∷ check (memb j before) Repeated ∷ index_checks m (j ∷ before) l

abbrev pub index_bytes : ℕ → List ℕ → List ℕ → Option Refusal
index_bytes m before l = first (index_checks m before l)

abbrev pub leaf_checks : Network → List ℕ → List Check
leaf_checks N l = check (ltb max_legs (length l) || leb max_leaves (leaf_count N)) TooLarge ∷ index_checks (index_count N) [] l

abbrev pub outputs_checks : Network → List ℕ → List Check
outputs_checks N l = check (ltb max_outputs (length l)) TooLarge ∷ index_checks (index_count N) [] l

-- ---- the fields ----

-- a network alone
abbrev pub bare : Network → Contents
bare N = record { network = N; tree = None; ask = plain }

abbrev pub take_weights : List ℕ → Result Reading Refusal
take_weights l =
    checked (weights_checks l)
    (Ok (record { due = leaves_due; read = bare (record { leaves = []; outputs = []; weights = l }) }))

module _ (N : Network) where
  abbrev pub take_leaf : List ℕ → Result Reading Refusal
  take_leaf l =
      checked (leaf_checks N l)
      (Ok (record { due = leaves_due; read = bare (record { leaves = N.leaves ++ (l ∷ []); outputs = []; weights = N.weights }) }))

  abbrev pub take_outputs : List ℕ → Result Reading Refusal
  take_outputs l =
      checked (outputs_checks N l)
      (Ok (record { due = tree_due; read = bare (record { leaves = N.leaves; outputs = l; weights = N.weights }) }))

  -- "8 for a tree that is not valid as its field ends"
  abbrev pub take_tree : List ℕ → Result Reading Refusal
  take_tree l =
      checked (tree_check N l ∷ []) (Ok (record { due = ask_due; read = record { network = N; tree = Some l; ask = plain } }))

  abbrev pub take_flags : Option (List ℕ) → List ℕ → Result Reading Refusal
  take_flags tree l =
      checked (flags_check N l ∷ []) (Ok (record { due = end_due; read = record { network = N; tree = tree; ask = flagged l } }))

  -- "a target field not of one byte"
  abbrev pub take_target : Option (List ℕ) → List ℕ → Result Reading Refusal
  take_target tree [] = Err TooLarge
  take_target tree (w ∷ []) = Ok (record { due = end_due; read = record { network = N; tree = tree; ask = target w } })
  take_target tree (w ∷ v ∷ l) = Err TooLarge

-- a field whose tag t is allowed
abbrev pub take_field : Reading → ℕ → List ℕ → Result Reading Refusal
take_field s t l =
    cond (eqb t 1) (take_weights l)
    (cond (eqb t 2) (take_leaf s.read.network l)
    (cond (eqb t 3) (take_outputs s.read.network l)
    (cond (eqb t 4) (take_tree s.read.network l)
    (cond (eqb t 5) (take_flags s.read.network s.read.tree l) (take_target s.read.network s.read.tree l)))))

-- "The file is checked field by field: header, tag, payload all there, length and leaf count, then bytes left to right". Each field has
-- three bytes or more, so the file's length is fuel enough.
abbrev pub read_fields : ℕ → Reading → List ℕ → Result Contents Refusal
read_fields zero s bytes = Err Truncated
read_fields (suc fuel) s [] = cond (may_end s.due) (Ok s.read) (Err Truncated)
read_fields (suc fuel) s (t ∷ []) = Err Truncated
read_fields (suc fuel) s (t ∷ high ∷ []) = Err Truncated
read_fields (suc fuel) s (t ∷ high ∷ low ∷ bytes) =
    let n = high * 256 + low in
    let rest = and_then (take_field s t (take n bytes)) λ s'. read_fields fuel s' (drop n bytes) in
    checked (header_checks s.due t n (length bytes)) rest

abbrev pub nothing_read : Reading
nothing_read =
    record { due = weights_due; read = bare (record { leaves = []; outputs = []; weights = [] }) }

-- "7, for lists the reader fills, at the file's end": the tree's if it has a tree, the flags' if it has flags, one place an index
abbrev pub tree_lent : Network → ℕ → Option (List ℕ) → List Lent
tree_lent N places None = []
tree_lent N places (Some kids) = lent places (tree_places N) ∷ []

abbrev pub flags_lent : Network → ℕ → Ask → List Lent
flags_lent N flag_places plain = []
flags_lent N flag_places (flagged l) = lent flag_places (index_count N) ∷ []
flags_lent N flag_places (target w) = []

-- the reader: places and flag_places are the lengths of the lists that are lent for the tree and the flags
unfoldable pub read_of : ℕ → ℕ → List ℕ → Result Contents Refusal
read_of places flag_places file =
    and_then (read_fields (suc (length file)) nothing_read file) λ c.
    checked (length_check (tree_lent c.network places c.tree ++ flags_lent c.network flag_places c.ask) ∷ []) (Ok c)

-- what the reader writes to the two lists: the children; the flags, and 0 up to one an index
abbrev pub tree_written : Contents → List ℕ → List ℕ
tree_written c l = written c.tree
  where
    written : Option (List ℕ) → List ℕ
    written None = l
    written (Some kids) = placed l 0 kids

abbrev pub flags_written : Contents → List ℕ → List ℕ
flags_written c l = written c.ask
  where
    written : Ask → List ℕ
    written plain = l
    written (flagged f) = placed l 0 (f ++ filled (index_count c.network - length f) 0)
    written (target w) = l

-- ---- writing ----

abbrev pub tree_checks : Network → Option (List ℕ) → List Check
tree_checks N None = []
tree_checks N (Some kids) = tree_check N kids ∷ []

abbrev pub flags_checks : Network → Ask → List Check
flags_checks N plain = []
flags_checks N (flagged l) = flags_check N l ∷ []
flags_checks N (target w) = []

-- "for the writer the file's bytes after the cursor"
abbrev pub write_checks : Contents → ℕ → ℕ → List Check
write_checks c size cursor =
    network_checks false c.network
    ++ (length_check (lent size (cursor + length (file_of c)) ∷ []) ∷ (tree_checks c.network c.tree ++ flags_checks c.network c.ask))

-- the writer: from the cursor on, into a buffer of `size` bytes; the answer is the cursor past the file
unfoldable pub write_of : Contents → ℕ → ℕ → Result ℕ Refusal
write_of c size cursor = checked (write_checks c size cursor) (Ok (cursor + length (file_of c)))

-- "The writer fills only the part of the lent buffer from its cursor on."
abbrev pub buffer_after : Contents → ℕ → Result ℕ Refusal → List ℕ → List ℕ
buffer_after c cursor (Err r) out = out
buffer_after c cursor (Ok next) out = placed out cursor (file_of c)

-- THE TABLE: the scope document's cases marked † that the definitions decide, in its order, and one theorem on all of them. A row has what the
-- document says and what the definitions give, as numbers: 1 for valid or accepted, a refusal's number, an order, a total; and the program's
-- sample, from the file's bytes to those of its output. Assumes nothing.
use Rattle.std.specs.Prelude.{false, cond, List, [], ◌∷◌, map, ◌≡◌, refl, ℕ, ◌+◌, ◌-◌, ◌*◌, ◌^◌, leb, replicate, Option, None, Some, Result, Err, Ok}
use Rattle.spec.specs.declared.Refusal.{Refusal}
use Rattle.spec.specs.declared.Total.{Total}
use Rattle.spec.specs.declared.Total.TheVariants.{Exact, Beyond}
use Prim.Native.String.{String}
use Rattle.std.specs.Float.{binary64}
use Rattle.std.specs.Float.Ieee.{round, mul, sub, lt, of_int, to_bits}
use Rattle.spec.specs.Lists.{range, keep}
use Rattle.spec.specs.Memory.{over}
use Rattle.spec.specs.Refusal.{number_of}
use Rattle.spec.specs.Network.{Network, named, refusal_of}
use Rattle.spec.specs.Tree.{tree_at, valid, pairs_of, flat_of, step_order}
use Rattle.spec.specs.Price.{kept, listing, total}
use Rattle.spec.specs.Calls.{plain_words, improve_words, valid_call, greedy_call, improve_call, slice_call, sliced_flags}
use Rattle.spec.specs.Draws.{unit_of, index_of}
use Rattle.spec.specs.Greedy.{greedy_from, greedy}
use Rattle.spec.specs.Undercut.{undercuts}
use Rattle.spec.specs.Improve.{weigh, keeps, passed, split_work, split_count, frontier, locals, reconf_node, visit, pass, array_for, improve}
use Rattle.spec.specs.ImproveClaims.{most_splits}
use Rattle.spec.specs.Slicing.{slice}
use Rattle.spec.specs.Program.{plan_of}
use Rattle.spec.specs.Text.{ascii, last_digits, decimal, spaced, lines_of, plan_text}
use Rattle.spec.specs.File.{read_of}
use Rattle.spec.specs.Output.{program_on, plan_bytes}
use Rattle.laws.specs.Samples.{network, apart}

pub record Row : Type 0 where
  pub says : List ℕ
  pub gives : List ℕ

abbrev row : List ℕ → List ℕ → Row
row s g = record { says = s; gives = g }

-- ---- answers as numbers ----

abbrev of_option : Option Refusal → ℕ
of_option None = 1
of_option (Some r) = number_of r

abbrev of_total : Total → List ℕ
of_total (Exact x) = x ∷ []
of_total Beyond = []

abbrev of_result : {A : Type 0} → Result A Refusal → ℕ
of_result (Err r) = number_of r
of_result (Ok x) = 1

-- leaves of no index
abbrev bare : ℕ → Network
bare n = network (replicate n []) [] []

-- the tree check of a flat list of children, over n leaves
abbrev tree_over : ℕ → List ℕ → ℕ
tree_over n kids = of_result (valid_call (bare n) plain_words kids)

abbrev total_over : Network → List ℕ → List ℕ
total_over N kids = of_total (total (listing N (λ j. false) (pairs_of kids)))

-- one leaf of n indices
abbrev leaf_of : ℕ → Network
leaf_of n = network (range n ∷ []) [] (replicate n 1)

-- the bytes of a text in hex, as the document writes it: two digits a byte, and whatever comes before the digit 0 in ASCII is left out
abbrev hex_digit : ℕ → ℕ
hex_digit c = cond (leb 97 c) (c - 87) (c - 48)

abbrev digit_pairs : List ℕ → List ℕ
digit_pairs [] = []
digit_pairs (h ∷ []) = []
digit_pairs (h ∷ l ∷ rest) = (hex_digit h * 16 + hex_digit l) ∷ digit_pairs rest

abbrev hex : String → List ℕ
hex text = digit_pairs (keep (λ c. leb 48 c) (ascii text))

-- ---- the rows ----

pub rows : List Row
rows =
    -- "No leaves or one leaf, no nodes: valid, total 0."
    row (1 ∷ 0 ∷ []) (tree_over 0 [] ∷ total_over (bare 0) [])
    ∷ row (1 ∷ 0 ∷ []) (tree_over 1 [] ∷ total_over (bare 1) [])
    -- "Two leaves, [0,0]: refused 8."
    ∷ row (8 ∷ []) (tree_over 2 (0 ∷ 0 ∷ []) ∷ [])
    -- "Three leaves, [0,1],[3,2]: valid; [4,1],[3,2]: refused 8."
    ∷ row (1 ∷ 8 ∷ []) (tree_over 3 (0 ∷ 1 ∷ 3 ∷ 2 ∷ []) ∷ tree_over 3 (4 ∷ 1 ∷ 3 ∷ 2 ∷ []) ∷ [])
    -- "Four leaves, [5,3],[0,1],[4,2]: valid, order 5, 4, 6."
    ∷ row (1 ∷ 5 ∷ 4 ∷ 6 ∷ []) (tree_over 4 (5 ∷ 3 ∷ 0 ∷ 1 ∷ 4 ∷ 2 ∷ []) ∷ step_order (5 ∷ 3 ∷ 0 ∷ 1 ∷ 4 ∷ 2 ∷ []) 4)
    -- "Weight 8 accepted, 9 refused 4."
    ∷ row (1 ∷ 4 ∷ []) (of_option (refusal_of (network [] [] (8 ∷ []))) ∷ of_option (refusal_of (network [] [] (9 ∷ []))) ∷ [])
    -- "32 indices in a leaf accepted, 33 refused 3."
    ∷ row (1 ∷ 3 ∷ []) (of_option (refusal_of (leaf_of 32)) ∷ of_option (refusal_of (leaf_of 33)) ∷ [])
    -- "Two leaves with no common index, all outputs: union of 52 bits has total 2^52; of 53 bits improvement refuses 10."
    ∷ row (2 ^ 52 ∷ []) (total_over (apart 4) (0 ∷ 1 ∷ []))
    ∷ row (10 ∷ []) (of_result (improve_call (apart 5) 8 4 None (improve_words 8) [] (0 ∷ 1 ∷ [])) ∷ [])
    -- "Most splits at m = 3, 4, 12: 6, 25, 261,625."
    ∷ row (6 ∷ 25 ∷ 261625 ∷ []) (most_splits 3 ∷ most_splits 4 ∷ most_splits 12 ∷ [])
    -- "Word 7, index draw below 3: 1. Unit draw of word 0: 0." (The f64 0 has the bits 0.)
    ∷ row (1 ∷ 0 ∷ []) (index_of 7 3 ∷ to_bits binary64 (unit_of 0) ∷ [])
    -- "One leaf {0,1}, weights 1, no output, target 1, no improving: index 0 is sliced."
    ∷ row (1 ∷ 0 ∷ []) (sliced_flags (leaf_of 2) (slice_call (leaf_of 2) false 1 plain_words 2 []) (7 ∷ 7 ∷ []))
    -- "Program `plan` reads a network file from standard input .. Input, hex: .. Output (†):"
    ∷ row
    (ascii "plan 3 3\nstep 3 2 1 1 0 1\nstep 4 3 0 1 1 0\ntotal 4\nwidest 1\nslice 1\nbits 2\nimproved 1\nsplits 18\n")
    (plan_bytes (hex "01 0003 010201, 02 0002 0001, 02 0002 0102, 02 0001 02, 03 0001 00, 06 0001 02"))
    ∷ []

-- EVERY ROW HOLDS
pub table : map (λ r. r.gives) rows ≡ map (λ r. r.says) rows
unfolding rows over plan_bytes program_on read_of decimal last_digits spaced lines_of plan_text valid_call greedy_call improve_call slice_call flat_of valid tree_at pairs_of step_order listing kept named most_splits unit_of slice greedy greedy_from plan_of improve weigh keeps passed split_work split_count frontier locals reconf_node visit pass array_for undercuts round mul sub lt of_int to_bits
table = refl

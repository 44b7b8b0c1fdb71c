-- The calls: what is refused and in which order, by what is lent and handed in; the stated workspace, and what is lent afterwards.
-- Definitions only. Assumes nothing.
use Rattle.std.specs.Prelude.{Bool, true, false, not, ◌&&◌, ◌||◌, cond, List, [], ◌∷◌, ◌++◌, map, ℕ, ◌+◌, ◌-◌, ◌*◌, ◌%◌, ◌^◌, eqb, ltb, leb, length, get_or, Option, Result, Err, Ok}
use Rattle.spec.specs.declared.Refusal.{Refusal}
use Rattle.spec.specs.declared.Refusal.TheVariants.{ShortBuffer, InvalidTree, InvalidFlags, TotalBeyond, DanglingIndex}
use Rattle.spec.specs.declared.Total.{Total}
use Rattle.spec.specs.declared.Total.TheVariants.{Exact, Beyond}
use Rattle.spec.specs.declared.Prices.{Prices}
use Rattle.spec.specs.Lists.{memb, range, anyb, keep}
use Rattle.spec.specs.Memory.{over, cleared}
use Rattle.spec.specs.Refusal.{number_of, Check, check, checked}
use Rattle.spec.specs.Network.{Network, leaf_count, index_count, legs, network_checks}
use Rattle.spec.specs.Tree.{Pair, valid, pairs_of, flat_of, step_order, same_plan}
use Rattle.spec.specs.Price.{listing, flat_steps, size_at, work_at, total, price_of}
use Rattle.spec.specs.Greedy.{greedy}
use Rattle.spec.specs.Bisection.{Bisected, bisection}
use Rattle.spec.specs.Improve.{clamped, Improved, improve}
use Rattle.spec.specs.Slicing.{Plan, slice, as_is, one_pass}

-- ---- 7 ----

-- the places that a lent list has, and those that are stated for it
pub record Lent : Type 0 where
  pub has : ℕ
  pub needs : ℕ

abbrev pub lent : ℕ → ℕ → Lent
lent has needs = record { has = has; needs = needs }

-- "a workspace or output list shorter than stated"
abbrev pub length_check : List Lent → Check
length_check l = check (anyb (λ x. ltb x.has x.needs) l) ShortBuffer

-- Workspace: "32,768 for bisection; 4,096 + 8 × 2^k, k after clamping (8 in slicing), for improvement and slicing with it; else 4,096."
abbrev pub plain_words : ℕ
plain_words = 4096

abbrev pub bisection_words : ℕ
bisection_words = 32768

abbrev pub improve_words : ℕ → ℕ
improve_words k = 4096 + 8 * 2 ^ clamped k

abbrev pub slice_words : Bool → ℕ
slice_words improving = cond improving (improve_words 8) plain_words

-- "Output lists: n−1 nodes or steps, one flag an index": a node takes two places of a tree's flat list
abbrev pub step_places : Network → ℕ
step_places N = leaf_count N - 1

abbrev pub tree_places : Network → ℕ
tree_places N = step_places N + step_places N

-- the price list has an entry for each node; "sets of four 64-bit words per node"
abbrev pub node_places : Network → ℕ
node_places N = leaf_count N + step_places N

abbrev pub set_words : ℕ
set_words = 4

-- a step takes five places of the listing's flat list
abbrev pub step_numbers : ℕ
step_numbers = 5

-- ---- 8 and 9 ----

-- of n leaves: "not valid, or odd length"
abbrev pub wrong_tree : ℕ → List ℕ → Bool
wrong_tree n kids = eqb (length kids % 2) 1 || not (valid n (pairs_of kids))

abbrev pub tree_check : Network → List ℕ → Check
tree_check N kids = check (wrong_tree (leaf_count N) kids) InvalidTree

-- "more flags than indices, or a byte over 1"
abbrev pub flags_check : Network → List ℕ → Check
flags_check N flags = check (ltb (index_count N) (length flags) || anyb (λ b. ltb 1 b) flags) InvalidFlags

-- is an index flagged: "Flags beyond the list's end count as clear."
abbrev pub flag_at : List ℕ → ℕ → Bool
flag_at flags j = not (eqb (get_or flags j 0) 0)

-- ---- 10 and 11 ----

abbrev pub is_beyond : Total → Bool
is_beyond (Exact x) = false
is_beyond Beyond = true

-- "total beyond"
abbrev pub total_is_beyond : Network → (ℕ → Bool) → List Pair → Bool
total_is_beyond N flag a = is_beyond (total (listing N flag a))

abbrev pub beyond_check : Network → (ℕ → Bool) → List Pair → Check
beyond_check N flag a = check (total_is_beyond N flag a) TotalBeyond

-- "a non-output index in just one leaf"
abbrev pub dangling : Network → Bool
dangling N =
    anyb (λ j. not (memb j N.outputs) && eqb (length (keep (λ i. memb j (legs N i)) (range (leaf_count N)))) 1) (range (index_count N))

abbrev pub dangling_check : Network → Check
dangling_check N = check (dangling N) DanglingIndex

-- ---- the calls: their checks, "by number", and their answers ----
-- words, places, flag_places: the lengths of the lent workspace, flat list of children, and list of flags. Improvement, and slicing with it,
-- work in the tree that is handed in, so nothing is lent for it.

-- the lengths of the lists that pricing fills: sets, size bits and work bits by node, and the listing
pub record PriceRoom : Type 0 where
  pub sets : ℕ
  pub sizes : ℕ
  pub works : ℕ
  pub steps : ℕ

-- 11 only with improvement, then "even if nothing need be sliced"
abbrev pub dangling_if : Network → Bool → List Check
dangling_if N true = dangling_check N ∷ []
dangling_if N false = []

abbrev pub follow_up : Network → Bool → (ℕ → Bool) → ℕ → List Pair → Improved
follow_up N true = one_pass N
follow_up N false = as_is

module _ (N : Network) where
  -- the tree check
  abbrev pub valid_checks : ℕ → List ℕ → List Check
  valid_checks words kids = network_checks false N ++ (length_check (lent words plain_words ∷ []) ∷ tree_check N kids ∷ [])

  unfoldable pub valid_call : ℕ → List ℕ → Result (Unit {0}) Refusal
  valid_call words kids = checked (valid_checks words kids) (Ok tt)

  -- the step order, to a list of one place a step
  abbrev pub order_checks : ℕ → ℕ → List ℕ → List Check
  order_checks words places kids =
      network_checks false N ++ (length_check (lent words plain_words ∷ lent places (step_places N) ∷ []) ∷ tree_check N kids ∷ [])

  unfoldable pub order_call : ℕ → ℕ → List ℕ → Result (List ℕ) Refusal
  order_call words places kids = checked (order_checks words places kids) (Ok (step_order kids (leaf_count N)))

  -- sameness of two trees
  abbrev pub same_checks : ℕ → List ℕ → List ℕ → List Check
  same_checks words kids others = network_checks false N ++ (length_check (lent words plain_words ∷ []) ∷ tree_check N kids ∷ tree_check N others ∷ [])

  unfoldable pub same_call : ℕ → List ℕ → List ℕ → Result Bool Refusal
  same_call words kids others = checked (same_checks words kids others) (Ok (same_plan (leaf_count N) (pairs_of kids) (pairs_of others)))

  -- pricing
  abbrev pub price_checks : ℕ → PriceRoom → List ℕ → List ℕ → List Check
  price_checks words room flags kids =
      network_checks false N
      ++ (length_check
      (lent words plain_words
      ∷ lent room.sets (node_places N * set_words)
      ∷ lent room.sizes (node_places N)
      ∷ lent room.works (node_places N)
      ∷ lent room.steps (step_places N * step_numbers)
      ∷ [])
      ∷ tree_check N kids
      ∷ flags_check N flags
      ∷ [])

  unfoldable pub price_call : ℕ → PriceRoom → List ℕ → List ℕ → Result Prices Refusal
  price_call words room flags kids = checked (price_checks words room flags kids) (Ok (price_of N (flag_at flags) (pairs_of kids)))

  abbrev pub greedy_checks : ℕ → ℕ → List Check
  greedy_checks words places =
      network_checks false N ++ (length_check (lent words plain_words ∷ lent places (tree_places N) ∷ []) ∷ [])

  unfoldable pub greedy_call : ℕ → ℕ → Result (List Pair) Refusal
  greedy_call words places = checked (greedy_checks words places) (greedy N)

  -- "imbalance i/1000 (i from 0 to 1,000, else refused 3"
  abbrev pub bisection_checks : ℕ → ℕ → ℕ → List Check
  bisection_checks i words places =
      network_checks (ltb 1000 i) N ++ (length_check (lent words bisection_words ∷ lent places (tree_places N) ∷ []) ∷ [])

  -- `draws` are the lent words that stand for the random generator, `words` the length of the workspace
  unfoldable pub bisection_call : ℕ → ℕ → List ℕ → ℕ → ℕ → Result Bisected Refusal
  bisection_call i cutoff draws words places = checked (bisection_checks i words places) (bisection N i cutoff draws)

  -- "0 to 255 passes (more: refused 3)"
  abbrev pub improve_checks : ℕ → ℕ → ℕ → List ℕ → List ℕ → List Check
  improve_checks k passes words flags kids =
      network_checks (ltb 255 passes) N
      ++ (length_check (lent words (improve_words k) ∷ [])
      ∷ tree_check N kids
      ∷ flags_check N flags
      ∷ beyond_check N (flag_at flags) (pairs_of kids)
      ∷ dangling_check N
      ∷ [])

  unfoldable pub improve_call : ℕ → ℕ → Option ℕ → ℕ → List ℕ → List ℕ → Result Improved Refusal
  improve_call k passes limit words flags kids =
      checked (improve_checks k passes words flags kids) (Ok (improve N k passes limit (flag_at flags) (pairs_of kids)))

  abbrev pub slice_checks : Bool → ℕ → ℕ → List ℕ → List Check
  slice_checks improving words flag_places kids =
      network_checks false N
      ++ (length_check (lent words (slice_words improving) ∷ lent flag_places (index_count N) ∷ [])
      ∷ tree_check N kids
      ∷ beyond_check N (λ j. false) (pairs_of kids)
      ∷ dangling_if N improving)

  unfoldable pub slice_call : Bool → ℕ → ℕ → ℕ → List ℕ → Result Plan Refusal
  slice_call improving target words flag_places kids =
      checked (slice_checks improving words flag_places kids) (Ok (slice N target (follow_up N improving) (pairs_of kids)))

-- ---- what is lent, afterwards ----

-- "except after 3 to 7, which don't touch it"
abbrev pub touches : Refusal → Bool
touches r = not (leb 3 (number_of r) && leb (number_of r) 7)

-- "After every call the stated workspace is zero", and "Words and list places past the stated lengths stay."
abbrev pub workspace_after : {A : Type 0} → ℕ → Result A Refusal → List ℕ → List ℕ
workspace_after stated (Err r) ws = cond (touches r) (cleared ws stated) ws
workspace_after stated (Ok x) ws = cleared ws stated

-- after a refusal "Trees, flags, listings and output lists are then unchanged"; else what is written stands over the front of the list
abbrev pub list_after : {A B : Type 0} → Result A Refusal → (A → List B) → List B → List B
list_after (Err r) written l = l
list_after (Ok x) written l = over l (written x)

-- the lists that each call writes: the step order; greedy's tree; bisection's; improvement's; slicing's and its flags; pricing's listing, size bits
-- and work bits by node
abbrev pub ordered_steps : Result (List ℕ) Refusal → List ℕ → List ℕ
ordered_steps r l = list_after r (λ steps. steps) l

abbrev pub greedy_tree : Result (List Pair) Refusal → List ℕ → List ℕ
greedy_tree r l = list_after r flat_of l

abbrev pub bisected_tree : Result Bisected Refusal → List ℕ → List ℕ
bisected_tree r l = list_after r (λ b. flat_of b.pairs) l

abbrev pub improved_tree : Result Improved Refusal → List ℕ → List ℕ
improved_tree r l = list_after r (λ d. flat_of d.tree) l

abbrev pub sliced_tree : Result Plan Refusal → List ℕ → List ℕ
sliced_tree r l = list_after r (λ p. flat_of p.tree) l

abbrev pub sliced_flags : Network → Result Plan Refusal → List ℕ → List ℕ
sliced_flags N r l = list_after r (λ p. map (λ j. cond (p.flag j) 1 0) (range (index_count N))) l

module _ (N : Network) (flags kids : List ℕ) where
  abbrev pub priced_steps : Result Prices Refusal → List ℕ → List ℕ
  priced_steps r l = list_after r (λ p. flat_steps (listing N (flag_at flags) (pairs_of kids))) l

  abbrev pub priced_sizes : Result Prices Refusal → List ℕ → List ℕ
  priced_sizes r l = list_after r (λ p. map (size_at N (flag_at flags) (pairs_of kids)) (range (node_places N))) l

  abbrev pub priced_works : Result Prices Refusal → List ℕ → List ℕ
  priced_works r l = list_after r (λ p. map (work_at N (flag_at flags) (pairs_of kids)) (range (node_places N))) l

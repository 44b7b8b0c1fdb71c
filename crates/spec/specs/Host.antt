-- Pricing, improvement, slicing and bisection for a C host: from a file's bytes to the listing's bytes, and from a network in memory to prices or to counts, or
-- a refusal.
-- Definitions only. Assumes nothing.
use Rattle.std.specs.Prelude.{Bool, false, not, cond, List, [], ◌∷◌, ◌++◌, ◌≡◌, ℕ, zero, suc, ◌+◌, ◌*◌, ◌/◌, ◌%◌, eqb, ltb, length, Option, None, Some, Result, Ok}
use Rattle.spec.specs.declared.Total.{Total}
use Rattle.spec.specs.declared.Total.TheVariants.{Exact, Beyond}
use Rattle.spec.specs.declared.Prices.{Prices}
use Rattle.spec.specs.declared.Refusal.{Refusal}
use Rattle.spec.specs.Network.{Network, network_checks}
use Rattle.spec.specs.Layout.{network_of}
use Rattle.spec.specs.Tree.{Pair, pairs_of}
use Rattle.spec.specs.Price.{listing, flat_steps, price_of}
use Rattle.spec.specs.Refusal.{code_of, and_then, checked}
use Rattle.spec.specs.Calls.{lent, length_check, plain_words, step_places, PriceRoom, price_call, bisection_call, improve_call, slice_call, flag_at, list_after}
use Rattle.spec.specs.Bisection.{Bisected}
use Rattle.spec.specs.Improve.{Improved}
use Rattle.spec.specs.Slicing.{Plan}
use Rattle.spec.specs.File.{flag_bytes, tree_bytes, read_of}
use Rattle.spec.specs.FileClaims.{refusal_in}

-- ---- the listing's bytes ----

-- a number in n bytes, high byte first
abbrev pub bytes_of : ℕ → ℕ → List ℕ
bytes_of zero x = []
bytes_of (suc n) x = bytes_of n (x / 256) ++ (x % 256 ∷ [])

-- two bytes each
abbrev pub two_each : List ℕ → List ℕ
two_each [] = []
two_each (x ∷ l) = bytes_of 2 x ++ two_each l

-- 0 and the total, or 1 and 0
abbrev pub total_bytes : Total → List ℕ
total_bytes (Exact x) = 0 ∷ bytes_of 8 x
total_bytes Beyond = 1 ∷ bytes_of 8 0

-- 1 and the size bits, or 0 and 0
abbrev pub widest_bytes : Option ℕ → List ℕ
widest_bytes None = 0 ∷ bytes_of 2 0
widest_bytes (Some x) = 1 ∷ bytes_of 2 x

-- the head: how many steps, total, widest, slice bits
abbrev pub head_bytes : ℕ → Prices → List ℕ
head_bytes steps p = bytes_of 2 steps ++ (total_bytes p.total ++ (widest_bytes p.widest ++ bytes_of 2 p.slice_bits))

-- the head, and ten bytes a step: node, left, right, work bits, size bits
abbrev pub listing_bytes : Network → (ℕ → Bool) → List Pair → List ℕ
listing_bytes N flag a =
    head_bytes (length (listing N flag a)) (price_of N flag a) ++ two_each (flat_steps (listing N flag a))

abbrev pub listing_length : Network → ℕ
listing_length N = 16 + step_places N * 10

-- ---- the call ----

-- room for the price list of every network: 255 nodes and 127 steps
abbrev pub full_room : PriceRoom
full_room = record { sets = 1020; sizes = 255; works = 255; steps = 635 }

-- ask for room for the listing, then price with the given flags and tree
unfoldable pub listing_call : ℕ → Network → List ℕ → List ℕ → Result (List ℕ) Refusal
listing_call size N flags kids =
    checked (length_check (lent size (listing_length N) ∷ []) ∷ [])
    (and_then (price_call N plain_words full_room flags kids) λ p. Ok (listing_bytes N (flag_at flags) (pairs_of kids)))

-- read the file, then price its network with its own flags and tree
unfoldable pub host_call : ℕ → List ℕ → Result (List ℕ) Refusal
host_call size file =
    and_then (read_of 254 256 file) λ c. listing_call size c.network (flag_bytes c.ask) (tree_bytes c.tree)

-- the lent buffer afterwards
abbrev pub host_after : Result (List ℕ) Refusal → List ℕ → List ℕ
host_after r out = list_after r (λ bytes. bytes) out

-- what a host gets: the number of the refusal, or 0, and the lent buffer afterwards
abbrev pub Answered : Result (List ℕ) Refusal → ℕ → List ℕ → List ℕ → Type 0
Answered r number out after = (number ≡ code_of (refusal_in r)) × (after ≡ host_after r out)

-- ---- a network in memory ----

-- the network of lists that are lent whole: a weight an index, a count a leaf; the indices of leaf i stand from place 32 i on
abbrev pub lent_network : (weights counts legs outputs : List ℕ) → Network
lent_network weights counts legs outputs = network_of (length weights) (length counts) (length outputs) weights counts legs outputs

-- what pricing answers, as four numbers: 0 and the total, or 1 and 0; 0 for no widest, or its size bits and one more; the slice bits
abbrev pub total_numbers : Total → List ℕ
total_numbers (Exact x) = 0 ∷ x ∷ []
total_numbers Beyond = 1 ∷ 0 ∷ []

abbrev pub widest_number : Option ℕ → ℕ
widest_number None = 0
widest_number (Some x) = x + 1

abbrev pub price_numbers : Prices → List ℕ
price_numbers p = total_numbers p.total ++ (widest_number p.widest ∷ p.slice_bits ∷ [])

-- by number: the network's conditions, then 7 for the list of the answer, then pricing's own. `places` is that list's length.
unfoldable pub memory_call : ℕ → Network → ℕ → PriceRoom → List ℕ → List ℕ → Result Prices Refusal
memory_call places N words room flags kids =
    checked (network_checks false N ++ (length_check (lent places 4 ∷ []) ∷ [])) (price_call N words room flags kids)

-- the list of the answer afterwards
abbrev pub answer_after : Result Prices Refusal → List ℕ → List ℕ
answer_after r l = list_after r price_numbers l

-- ---- improvement of a network in memory ----

-- a limit of whole bits as a number: none from 65,536 on
abbrev pub limit_number : ℕ → Option ℕ
limit_number x = cond (ltb x 65536) (Some x) None

-- what improvement answers, as two numbers: rebuilds, splits tried
abbrev pub improve_numbers : Improved → List ℕ
improve_numbers d = d.rebuilt ∷ d.tried ∷ []

-- by number: 3 for the passes and the network's conditions, then 7 for the list of the answer, then improvement's own
unfoldable pub memory_improve_call : ℕ → Network → ℕ → ℕ → Option ℕ → ℕ → List ℕ → List ℕ → Result Improved Refusal
memory_improve_call places N k passes limit words flags kids =
    checked (network_checks (ltb 255 passes) N ++ (length_check (lent places 2 ∷ []) ∷ [])) (improve_call N k passes limit words flags kids)

-- the list of the answer afterwards
abbrev pub improve_after : Result Improved Refusal → List ℕ → List ℕ
improve_after r l = list_after r improve_numbers l

-- ---- slicing of a network in memory ----

-- a number that stands for improvement on, and 0 for off
abbrev pub improving_number : ℕ → Bool
improving_number x = not (eqb x 0)

-- what slicing answers, as two numbers: rebuilds, splits tried
abbrev pub slice_numbers : Plan → List ℕ
slice_numbers p = p.rebuilt ∷ p.tried ∷ []

-- by number: the network's conditions, then 7 for the list of the answer, then slicing's own
unfoldable pub memory_slice_call : ℕ → Network → Bool → ℕ → ℕ → ℕ → List ℕ → Result Plan Refusal
memory_slice_call places N improving target words flag_places kids =
    checked (network_checks false N ++ (length_check (lent places 2 ∷ []) ∷ [])) (slice_call N improving target words flag_places kids)

-- the list of the answer afterwards
abbrev pub slice_after : Result Plan Refusal → List ℕ → List ℕ
slice_after r l = list_after r slice_numbers l

-- ---- bisection of a network in memory ----

-- what bisection answers, as one number: the words taken
abbrev pub taken_numbers : Bisected → List ℕ
taken_numbers b = b.taken ∷ []

-- by number: 3 for the imbalance and the network's conditions, then 7 for the list of the answer, then bisection's own
unfoldable pub memory_bisection_call : ℕ → Network → ℕ → ℕ → List ℕ → ℕ → ℕ → Result Bisected Refusal
memory_bisection_call answer_places N i cutoff draws words places =
    checked (network_checks (ltb 1000 i) N ++ (length_check (lent answer_places 1 ∷ []) ∷ [])) (bisection_call N i cutoff draws words places)

-- the list of the answer afterwards
abbrev pub taken_after : Result Bisected Refusal → List ℕ → List ℕ
taken_after r l = list_after r taken_numbers l

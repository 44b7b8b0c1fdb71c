-- The C host's pricing and slicing by computation: the listing's bytes of small plans, their numbers, and refusals. Assumes nothing.
use Rattle.std.specs.Prelude.{List, [], ◌∷◌, ◌++◌, map, ◌≡◌, refl, ℕ, ◌^◌, None, Some, Result, Ok}
use Rattle.spec.specs.declared.Prices.{Prices}
use Rattle.spec.specs.declared.Refusal.{Refusal}
use Rattle.std.specs.Float.Ieee.{round, mul, sub, lt, of_int}
use Rattle.spec.specs.Memory.{filled, over}
use Rattle.spec.specs.Refusal.{code_of}
use Rattle.spec.specs.Tree.{valid, tree_at, pairs_of}
use Rattle.spec.specs.Price.{kept, listing, flat_steps}
use Rattle.spec.specs.Network.{Network, named}
use Rattle.spec.specs.Layout.{firsts, network_of}
use Rattle.spec.specs.Undercut.{undercuts}
use Rattle.spec.specs.Improve.{weigh, keeps, passed, split_work, split_count, frontier, locals, reconf_node, visit, pass, array_for, improve}
use Rattle.spec.specs.Slicing.{Plan, slice}
use Rattle.spec.specs.Calls.{price_call, slice_call}
use Rattle.spec.specs.File.{plain, flagged, Contents, file_of, read_of}
use Rattle.spec.specs.FileClaims.{refusal_in}
use Rattle.spec.specs.Host.{full_room, listing_call, host_call, lent_network, memory_call, answer_after, improving_number, memory_slice_call, slice_after}
use Rattle.laws.specs.Samples.{network, sample, apart}

abbrev contents : Contents
contents = record { network = sample; tree = Some (2 ∷ 1 ∷ 3 ∷ 0 ∷ []); ask = flagged (0 ∷ 1 ∷ []) }

-- two steps, total 4, widest 1, slice bits 2; then the steps of the sample, index 1 being flagged
priced : host_call 36 (file_of contents)
    ≡ Ok (0 ∷ 2 ∷ 0 ∷ 0 ∷ 0 ∷ 0 ∷ 0 ∷ 0 ∷ 0 ∷ 0 ∷ 4 ∷ 1 ∷ 0 ∷ 1 ∷ 0 ∷ 2
    ∷ 0 ∷ 3 ∷ 0 ∷ 2 ∷ 0 ∷ 1 ∷ 0 ∷ 1 ∷ 0 ∷ 0
    ∷ 0 ∷ 4 ∷ 0 ∷ 3 ∷ 0 ∷ 0 ∷ 0 ∷ 1 ∷ 0 ∷ 1 ∷ [])
unfolding host_call listing_call read_of file_of price_call listing flat_steps valid tree_at pairs_of kept named
priced = refl

-- one byte too few; no tree; too few bytes before the missing tree; half a file
abbrev bare : Contents
bare = record { network = sample; tree = None; ask = plain }

refusals : map code_of (
    refusal_in (host_call 35 (file_of contents)) ∷ refusal_in (host_call 36 (file_of bare)) ∷ refusal_in (host_call 35 (file_of bare)) ∷ refusal_in (host_call 36 []) ∷ [])
    ≡ 7 ∷ 8 ∷ 7 ∷ 1 ∷ []
unfolding host_call listing_call read_of file_of price_call listing valid tree_at pairs_of kept named
refusals = refl

-- a network in memory: its lists stand for the same network, and its prices are the four numbers; then three places for them, and a weight of 9
abbrev rows : List ℕ
rows = (0 ∷ 1 ∷ []) ++ filled 30 0 ++ ((1 ∷ 2 ∷ []) ++ filled 30 0 ++ (2 ∷ []))

lent_sample : lent_network (1 ∷ 2 ∷ 1 ∷ []) (2 ∷ 2 ∷ 1 ∷ []) rows (0 ∷ []) ≡ sample
unfolding network_of firsts filled
lent_sample = refl

abbrev in_memory : ℕ → Network → Result Prices Refusal
in_memory places N = memory_call places N 4096 full_room (0 ∷ 1 ∷ []) (2 ∷ 1 ∷ 3 ∷ 0 ∷ [])

memory : answer_after (in_memory 5 sample) (9 ∷ 9 ∷ 9 ∷ 9 ∷ 9 ∷ []) ≡ 0 ∷ 4 ∷ 2 ∷ 2 ∷ 9 ∷ []
unfolding memory_call over price_call listing valid tree_at pairs_of kept named
memory = refl

memory_refused : map (λ r. code_of (refusal_in r)) (in_memory 3 sample ∷ in_memory 3 (record { leaves = []; outputs = []; weights = 9 ∷ [] }) ∷ []) ≡ 7 ∷ 4 ∷ []
unfolding memory_call price_call listing valid tree_at pairs_of kept named
memory_refused = refl

-- four places are enough
memory_fits : answer_after (in_memory 4 sample) (9 ∷ 9 ∷ 9 ∷ 9 ∷ []) ≡ 0 ∷ 4 ∷ 2 ∷ 2 ∷ []
unfolding memory_call over price_call listing valid tree_at pairs_of kept named
memory_fits = refl

-- ---- high bytes, a total beyond, no widest: two leaves of 52 and of 53 bits together, and no leaves ----

-- a plan of one step, or none, as bytes and as four numbers
abbrev bytes : Network → List ℕ → Result (List ℕ) Refusal
bytes N kids = listing_call 26 N [] kids

abbrev numbers : Network → List ℕ → List ℕ
numbers N kids = answer_after (memory_call 4 N 4096 full_room [] kids) (9 ∷ 9 ∷ 9 ∷ 9 ∷ [])

-- 2^52, 52 bits
exact_bytes : bytes (apart 4) (0 ∷ 1 ∷ [])
    ≡ Ok (0 ∷ 1 ∷ 0 ∷ 0 ∷ 16 ∷ 0 ∷ 0 ∷ 0 ∷ 0 ∷ 0 ∷ 0 ∷ 1 ∷ 0 ∷ 52 ∷ 0 ∷ 0 ∷ 0 ∷ 2 ∷ 0 ∷ 0 ∷ 0 ∷ 1 ∷ 0 ∷ 52 ∷ 0 ∷ 52 ∷ [])
unfolding listing_call price_call listing flat_steps valid tree_at pairs_of kept named
exact_bytes = refl

beyond_bytes : bytes (apart 5) (0 ∷ 1 ∷ [])
    ≡ Ok (0 ∷ 1 ∷ 1 ∷ 0 ∷ 0 ∷ 0 ∷ 0 ∷ 0 ∷ 0 ∷ 0 ∷ 0 ∷ 1 ∷ 0 ∷ 53 ∷ 0 ∷ 0 ∷ 0 ∷ 2 ∷ 0 ∷ 0 ∷ 0 ∷ 1 ∷ 0 ∷ 53 ∷ 0 ∷ 53 ∷ [])
unfolding listing_call price_call listing flat_steps valid tree_at pairs_of kept named
beyond_bytes = refl

no_leaf_bytes : bytes (network [] [] []) [] ≡ Ok (0 ∷ 0 ∷ 0 ∷ 0 ∷ 0 ∷ 0 ∷ 0 ∷ 0 ∷ 0 ∷ 0 ∷ 0 ∷ 0 ∷ 0 ∷ 0 ∷ 0 ∷ 0 ∷ [])
unfolding listing_call price_call listing flat_steps valid tree_at pairs_of kept named
no_leaf_bytes = refl

in_numbers : (numbers (apart 4) (0 ∷ 1 ∷ []) ∷ numbers (apart 5) (0 ∷ 1 ∷ []) ∷ numbers (network [] [] []) [] ∷ [])
    ≡ (0 ∷ 2 ^ 52 ∷ 53 ∷ 0 ∷ []) ∷ (1 ∷ 0 ∷ 54 ∷ 0 ∷ []) ∷ (0 ∷ 0 ∷ 0 ∷ 0 ∷ []) ∷ []
unfolding memory_call over price_call listing valid tree_at pairs_of kept named
in_numbers = refl

-- ---- slicing of a network in memory: the sample's tree to the target 2 ----

abbrev sliced_in : ℕ → ℕ → Network → Result Plan Refusal
sliced_in improving places N = memory_slice_call places N (improving_number improving) 2 6144 3 (2 ∷ 1 ∷ 3 ∷ 0 ∷ [])

-- with improvement, by any number but 0, the pass after the one choice tries six splits; without, nothing is counted
sliced_numbers : map (λ improving. slice_after (sliced_in improving 3 sample) (9 ∷ 9 ∷ 9 ∷ [])) (0 ∷ 1 ∷ 2 ∷ []) ≡ (0 ∷ 0 ∷ 9 ∷ []) ∷ (0 ∷ 6 ∷ 9 ∷ []) ∷ (0 ∷ 6 ∷ 9 ∷ []) ∷ []
unfolding memory_slice_call slice_call slice over listing valid tree_at pairs_of kept named improve weigh keeps passed split_work split_count frontier locals reconf_node visit pass array_for undercuts round mul sub lt of_int
sliced_numbers = refl

-- one place is too short, after the network's conditions
sliced_refused : map (λ r. code_of (refusal_in r)) (sliced_in 0 1 sample ∷ sliced_in 0 1 (record { leaves = []; outputs = []; weights = 9 ∷ [] }) ∷ sliced_in 0 2 sample ∷ []) ≡ 7 ∷ 4 ∷ 0 ∷ []
unfolding memory_slice_call slice_call slice listing valid tree_at pairs_of kept named
sliced_refused = refl

-- Samples of what calls have in common, and of draws, by computation. Assumes nothing.
use Rattle.std.specs.Prelude.{true, false, List, [], ◌∷◌, map, ◌≡◌, refl, ℕ, ◌-◌, ◌^◌, Option, None, Some, Result, Err, Ok}
use Rattle.spec.specs.declared.Refusal.{Refusal}
use Rattle.spec.specs.declared.Refusal.TheVariants.{TooLarge, Overweight, ShortBuffer, InvalidTree, InvalidFlags}
use Rattle.spec.specs.declared.Total.TheVariants.{Exact}
use Rattle.std.specs.Float.{binary64}
use Rattle.std.specs.Float.Ieee.{round, mul, of_int, to_bits}
use Rattle.spec.specs.Lists.{from, range}
use Rattle.spec.specs.Memory.{filled, over, cleared}
use Rattle.spec.specs.Refusal.{number_of, word, first}
use Rattle.spec.specs.Network.{Network, named, refusal_of}
use Rattle.spec.specs.Tree.{valid, tree_at, pairs_of, flat_of, same_plan, step_order}
use Rattle.spec.specs.Price.{kept, listing, flat_steps}
use Rattle.spec.specs.Greedy.{greedy_from, greedy}
use Rattle.spec.specs.Slicing.{slice}
use Rattle.spec.specs.Calls.{lent, length_check, tree_check, flags_check, improve_words, PriceRoom, valid_call, order_call, same_call, price_call, greedy_call, improve_call, slice_call, workspace_after, ordered_steps, greedy_tree, priced_steps, priced_sizes, priced_works}
use Rattle.spec.specs.Draws.{unit_of}
use Rattle.laws.specs.Accepted.{by_number}
use Rattle.laws.specs.Samples.{network, sample}

-- ---- the table of refusals: numbers and words ----

numbers : map number_of by_number ≡ from 1 13
numbers = refl

words : map word by_number
    ≡ "short" ∷ "tag" ∷ "large" ∷ "weight" ∷ "stray" ∷ "twice" ∷ "bench" ∷ "tree" ∷ "flag" ∷ "dear" ∷ "loose" ∷ "wide" ∷ "spent" ∷ []
words = refl

-- ---- draws: 2^11 is one unit of 2^-53, a word below it none, and the largest word 1 - 2^-53 ----

units : map (λ w. to_bits binary64 (unit_of w)) (2047 ∷ 2048 ∷ 2 ^ 63 ∷ (2 ^ 64 - 1) ∷ [])
    ≡ 0 ∷ 0x3ca0_0000_0000_0000 ∷ 0x3fe0_0000_0000_0000 ∷ 0x3fef_ffff_ffff_ffff ∷ []
unfolding unit_of round mul of_int to_bits
units = refl

-- ---- 7: one word short; the checks come in the order of their numbers ----

one_too_few : first (length_check (lent 4096 4096 ∷ lent 3 4 ∷ []) ∷ []) ≡ Some ShortBuffer
one_too_few = refl

long_enough : first (length_check (lent 4096 4096 ∷ lent 4 4 ∷ []) ∷ []) ≡ None
long_enough = refl

-- ---- 8: an odd length, the tree of the even part being valid; a child above the root ----

odd_length : first (tree_check sample (0 ∷ 1 ∷ 3 ∷ 2 ∷ 0 ∷ []) ∷ []) ≡ Some InvalidTree
unfolding valid tree_at pairs_of
odd_length = refl

above_root : first (tree_check sample (0 ∷ 1 ∷ 5 ∷ 2 ∷ []) ∷ []) ≡ Some InvalidTree
unfolding valid tree_at pairs_of
above_root = refl

-- ---- 9: a flag too many, a byte over 1; fewer flags are no fault ----

flag_too_many : first (flags_check sample (0 ∷ 0 ∷ 0 ∷ 0 ∷ []) ∷ []) ≡ Some InvalidFlags
flag_too_many = refl

flag_over_1 : first (flags_check sample (0 ∷ 2 ∷ []) ∷ []) ≡ Some InvalidFlags
flag_over_1 = refl

few_flags : first (flags_check sample (0 ∷ 1 ∷ []) ∷ []) ≡ None
few_flags = refl

-- ---- the order of the numbers: a weight of 9 and 256 passes are 3; k is clamped before the workspace is measured ----

abbrev heavy : Network
heavy = network [] [] (9 ∷ [])

numbers_first : improve_call heavy 8 256 None 0 [] [] ≡ Err TooLarge
unfolding improve_call
numbers_first = refl

then_weights : improve_call heavy 8 255 None 0 [] [] ≡ Err Overweight
unfolding improve_call
then_weights = refl

one_word_short : improve_call sample 0 4 None 4159 [] [] ≡ Err ShortBuffer
unfolding improve_call
one_word_short = refl

words_enough : improve_call sample 0 4 None 4160 [] [] ≡ Err InvalidTree
unfolding improve_call valid tree_at pairs_of
words_enough = refl

-- ---- the limits of a network: at each, and one past it ----

abbrev number_for : Network → ℕ
number_for N = of_option (refusal_of N)
  where
    of_option : Option Refusal → ℕ
    of_option None = 0
    of_option (Some r) = number_of r

limits : map number_for (
    network (filled 128 []) [] []
    ∷ network (filled 129 []) [] []
    ∷ network [] [] (filled 256 0)
    ∷ network [] [] (filled 257 0)
    ∷ network [] (range 32) (filled 33 0)
    ∷ network [] (range 33) (filled 33 0)
    ∷ [])
    ≡ 0 ∷ 3 ∷ 0 ∷ 3 ∷ 0 ∷ 3 ∷ []
unfolding filled
limits = refl

-- with one index: it repeats in a leaf or the outputs, 6; an index not below 1 in either, 5, and 5 too where the same leaf repeats one before it
indices : map number_for (
    network ((0 ∷ []) ∷ (0 ∷ []) ∷ []) (0 ∷ []) (1 ∷ [])
    ∷ network ((0 ∷ 0 ∷ []) ∷ []) [] (1 ∷ [])
    ∷ network [] (0 ∷ 0 ∷ []) (1 ∷ [])
    ∷ network ((1 ∷ []) ∷ []) [] (1 ∷ [])
    ∷ network [] (1 ∷ []) (1 ∷ [])
    ∷ network ((0 ∷ 0 ∷ 5 ∷ []) ∷ []) [] (1 ∷ [])
    ∷ network ((0 ∷ 0 ∷ []) ∷ []) (1 ∷ []) (1 ∷ [])
    ∷ [])
    ≡ 0 ∷ 6 ∷ 6 ∷ 5 ∷ 5 ∷ 5 ∷ 5 ∷ []
indices = refl

-- ---- stated lengths: one word or place short of each, and enough ----

abbrev of_result : {A : Type 0} → Result A Refusal → ℕ
of_result (Err r) = number_of r
of_result (Ok x) = 0

abbrev room : ℕ → ℕ → ℕ → ℕ → PriceRoom
room sets sizes works steps = record { sets = sets; sizes = sizes; works = works; steps = steps }

abbrev kids : List ℕ
kids = 0 ∷ 1 ∷ 3 ∷ 2 ∷ []

-- three leaves: five nodes, two steps, four places of children, three indices
plain_calls : (
    of_result (valid_call sample 4095 kids)
    ∷ of_result (valid_call sample 4096 kids)
    ∷ of_result (same_call sample 4095 kids kids)
    ∷ of_result (same_call sample 4096 kids (0 ∷ 1 ∷ []))
    ∷ of_result (greedy_call sample 4095 4)
    ∷ of_result (greedy_call sample 4096 3)
    ∷ of_result (greedy_call sample 4096 4)
    ∷ [])
    ≡ 7 ∷ 0 ∷ 7 ∷ 8 ∷ 7 ∷ 7 ∷ 0 ∷ []
unfolding valid_call same_call greedy_call valid tree_at pairs_of same_plan greedy greedy_from kept named
plain_calls = refl

order_calls : (
    of_result (order_call sample 4095 2 kids)
    ∷ of_result (order_call sample 4096 1 kids)
    ∷ of_result (order_call sample 4096 2 (0 ∷ 1 ∷ []))
    ∷ [])
    ≡ 7 ∷ 7 ∷ 8 ∷ []
unfolding order_call valid tree_at pairs_of step_order
order_calls = refl

steps_written : ordered_steps (order_call sample 4096 3 kids) (9 ∷ 9 ∷ 9 ∷ []) ≡ 3 ∷ 4 ∷ 9 ∷ []
unfolding order_call valid tree_at pairs_of step_order over
steps_written = refl

price_calls : map (λ r. of_result (price_call sample 4096 r [] kids)) (
    room 20 5 5 10 ∷ room 19 5 5 10 ∷ room 20 4 5 10 ∷ room 20 5 4 10 ∷ room 20 5 5 9 ∷ [])
    ≡ 0 ∷ 7 ∷ 7 ∷ 7 ∷ 7 ∷ []
unfolding price_call valid tree_at pairs_of
price_calls = refl

price_words : (of_result (price_call sample 4095 (room 20 5 5 10) [] kids) ∷ of_result (price_call sample 4096 (room 20 5 5 10) (2 ∷ []) kids) ∷ [])
    ≡ 7 ∷ 9 ∷ []
unfolding price_call valid tree_at pairs_of
price_words = refl

-- 4,096 + 8 × 2^8 words with improvement; 11 only with it
slice_calls : (
    of_result (slice_call sample true 2 6143 3 kids)
    ∷ of_result (slice_call sample true 2 6144 2 kids)
    ∷ of_result (slice_call sample false 2 4095 3 kids)
    ∷ of_result (slice_call sample false 2 4096 3 kids)
    ∷ of_result (slice_call (network ((0 ∷ []) ∷ []) [] (1 ∷ [])) true 2 6144 1 [])
    ∷ of_result (slice_call (network ((0 ∷ []) ∷ []) [] (1 ∷ [])) false 2 4096 1 [])
    ∷ [])
    ≡ 7 ∷ 7 ∷ 7 ∷ 0 ∷ 11 ∷ 0 ∷ []
unfolding slice_call slice listing valid tree_at pairs_of kept named
slice_calls = refl

-- k is clamped to 3 to 12
clamps : map improve_words (0 ∷ 3 ∷ 4 ∷ 12 ∷ 13 ∷ []) ≡ 4160 ∷ 4160 ∷ 4224 ∷ 36864 ∷ 36864 ∷ []
clamps = refl

-- pricing goes by the flags, and sameness by the trees
flags_count : price_call sample 4096 (room 20 5 5 10) (0 ∷ 1 ∷ []) (2 ∷ 1 ∷ 3 ∷ 0 ∷ [])
    ≡ Ok (record { total = Exact 4; widest = Some 1; slice_bits = 2 })
unfolding price_call listing valid tree_at pairs_of kept named
flags_count = refl

-- slice bits count every flagged index: an output, and one that no leaf names
output_flagged : price_call (network ((0 ∷ []) ∷ []) (0 ∷ []) (3 ∷ 5 ∷ [])) 4096 (room 4 1 1 0) (1 ∷ 1 ∷ []) []
    ≡ Ok (record { total = Exact 0; widest = Some 0; slice_bits = 8 })
unfolding price_call listing valid tree_at pairs_of kept named
output_flagged = refl

sameness : (same_call sample 4096 kids (1 ∷ 0 ∷ 2 ∷ 3 ∷ []) ≡ Ok true) × (same_call sample 4096 kids (1 ∷ 2 ∷ 3 ∷ 0 ∷ []) ≡ Ok false)
unfolding same_call same_plan valid tree_at pairs_of
sameness = (refl, refl)

-- ---- the workspace of two words after 3, 7, 8, 9 and after an answer; lists of which more is lent than is written ----

abbrev after : Result ℕ Refusal → List ℕ
after r = workspace_after 2 r (7 ∷ 8 ∷ 9 ∷ [])

workspace : map after (Err TooLarge ∷ Err ShortBuffer ∷ Err InvalidTree ∷ Err InvalidFlags ∷ Ok 0 ∷ [])
    ≡ (7 ∷ 8 ∷ 9 ∷ []) ∷ (7 ∷ 8 ∷ 9 ∷ []) ∷ (0 ∷ 0 ∷ 9 ∷ []) ∷ (0 ∷ 0 ∷ 9 ∷ []) ∷ (0 ∷ 0 ∷ 9 ∷ []) ∷ []
unfolding cleared over filled
workspace = refl

lists : (greedy_tree (greedy_call sample 4096 5) (7 ∷ 7 ∷ 7 ∷ 7 ∷ 7 ∷ []) ≡ 0 ∷ 1 ∷ 3 ∷ 2 ∷ 7 ∷ [])
    × (greedy_tree (greedy_call sample 0 5) (7 ∷ 7 ∷ 7 ∷ 7 ∷ 7 ∷ []) ≡ 7 ∷ 7 ∷ 7 ∷ 7 ∷ 7 ∷ [])
unfolding greedy_call greedy greedy_from kept named flat_of over
lists = (refl, refl)

-- two steps, and a place past them; three leaves and two nodes; a refusal
abbrev eleven : List ℕ
eleven = filled 11 9

abbrev tree : List ℕ
tree = 2 ∷ 1 ∷ 3 ∷ 0 ∷ []

priced : (priced_steps sample (0 ∷ 1 ∷ []) tree (price_call sample 4096 (room 20 5 5 11) (0 ∷ 1 ∷ []) tree) eleven
    ≡ 3 ∷ 2 ∷ 1 ∷ 1 ∷ 0 ∷ 4 ∷ 3 ∷ 0 ∷ 1 ∷ 1 ∷ 9 ∷ [])
    × (priced_sizes sample [] tree (price_call sample 4096 (room 20 6 6 11) [] tree) (filled 6 9) ≡ 3 ∷ 3 ∷ 1 ∷ 2 ∷ 1 ∷ 9 ∷ [])
    × (priced_works sample [] tree (price_call sample 4096 (room 20 6 6 11) [] tree) (filled 6 9) ≡ 0 ∷ 0 ∷ 0 ∷ 3 ∷ 3 ∷ 9 ∷ [])
    × (priced_steps sample [] tree (price_call sample 4096 (room 20 5 5 9) [] tree) eleven ≡ eleven)
    × (priced_sizes sample (0 ∷ 1 ∷ []) tree (price_call sample 4096 (room 20 5 5 10) (0 ∷ 1 ∷ []) tree) (filled 5 9) ≡ 1 ∷ 1 ∷ 1 ∷ 0 ∷ 1 ∷ [])
    × (priced_works sample (0 ∷ 1 ∷ []) tree (price_call sample 4096 (room 20 5 5 10) (0 ∷ 1 ∷ []) tree) (filled 5 9) ≡ 0 ∷ 0 ∷ 0 ∷ 1 ∷ 1 ∷ [])
unfolding price_call listing flat_steps valid tree_at pairs_of kept named over filled
priced = (refl, refl, refl, refl, refl, refl)

-- Bisection's answers at samples, by computation. Those of whole networks are the Rust's from the same words (`harness bisect`).
-- Assumes nothing.
use Rattle.std.specs.Prelude.{List, [], ◌∷◌, map, ◌≡◌, refl, ℕ, suc, ◌*◌, ◌%◌, ◌^◌, drop, Some, Err, Ok}
use Rattle.spec.specs.declared.Refusal.TheVariants.{DrawsExhausted}
use Rattle.std.specs.Float.Ieee.{round, add, sub, mul, div, neg, lt, le, eq, of_int}
use Rattle.spec.specs.Lists.{range}
use Rattle.spec.specs.Floats.{decimal, whole_float, round_away, round_to}
use Rattle.spec.specs.Draws.{unit_of, drawn, lent_words}
use Rattle.spec.specs.Network.{named}
use Rattle.spec.specs.Price.{kept}
use Rattle.spec.specs.Greedy.{greedy_from}
use Rattle.spec.specs.Hypergraph.{Net, Hypergraph, hypergraph_of, cut}
use Rattle.spec.specs.Fm.{gain, fm}
use Rattle.spec.specs.Coarsen.{coarsen}
use Rattle.spec.specs.Bisection.{initial, imbalance, bisect, bisection}
use Rattle.laws.specs.Samples.{pair, network}

-- word k, from 0 on, is (k + 1) × step modulo 2^64
abbrev multiples : ℕ → ℕ → List ℕ
multiples step n = map (λ k. suc k * step % 2 ^ 64) (range n)

-- an odd step spreads the words, the step 0 makes ties
abbrev golden : ℕ
golden = 11400714819323198485

-- ---- whole networks ----

-- nothing in common: the tries differ by their seeds, and the first one stands
three_leaves : bisection (network ((4 ∷ []) ∷ (3 ∷ []) ∷ (5 ∷ []) ∷ []) [] (2 ∷ 2 ∷ 2 ∷ 2 ∷ 2 ∷ 2 ∷ [])) 200 2 (multiples golden 48)
    ≡ Ok (record { pairs = pair 1 2 ∷ pair 0 3 ∷ []; taken = 48 })
unfolding bisection bisect initial coarsen fm gain cut hypergraph_of unit_of round_to round_away greedy_from kept named round add sub mul div neg lt le eq of_int
three_leaves = refl

-- a draw is due and no word is left
one_word_short : bisection (network ((4 ∷ []) ∷ (3 ∷ []) ∷ (5 ∷ []) ∷ []) [] (2 ∷ 2 ∷ 2 ∷ 2 ∷ 2 ∷ 2 ∷ [])) 200 2 (multiples golden 47)
    ≡ Err DrawsExhausted
unfolding bisection bisect initial coarsen fm gain cut hypergraph_of unit_of round_to round_away greedy_from kept named round add sub mul div neg lt le eq of_int
one_word_short = refl

-- all noise 0: of two vertices with equal keys and stamps the higher moves
tie_higher : bisection (network ((2 ∷ 5 ∷ []) ∷ (1 ∷ []) ∷ (5 ∷ []) ∷ []) [] (2 ∷ 2 ∷ 1 ∷ 1 ∷ 0 ∷ 0 ∷ [])) 200 2 (multiples 0 48)
    ≡ Ok (record { pairs = pair 0 1 ∷ pair 2 3 ∷ []; taken = 48 })
unfolding bisection bisect initial coarsen fm gain cut hypergraph_of unit_of round_to round_away greedy_from kept named round add sub mul div neg lt le eq of_int
tie_higher = refl

-- all noise 0: of two vertices with equal keys the one that was entered later moves
tie_later : bisection (network ((3 ∷ 0 ∷ 1 ∷ []) ∷ (2 ∷ 1 ∷ 3 ∷ 4 ∷ []) ∷ (2 ∷ []) ∷ (0 ∷ []) ∷ []) [] (2 ∷ 2 ∷ 2 ∷ 2 ∷ 2 ∷ [])) 1000 3 (multiples 0 152)
    ≡ Ok (record { pairs = pair 0 1 ∷ pair 4 3 ∷ pair 2 5 ∷ []; taken = 152 })
unfolding bisection bisect initial coarsen fm gain cut hypergraph_of unit_of round_to round_away greedy_from kept named round add sub mul div neg lt le eq of_int
tie_later = refl

-- a side may weigh just as much as the limit
just_fits : bisection (network ((2 ∷ 5 ∷ []) ∷ (2 ∷ []) ∷ (4 ∷ []) ∷ (3 ∷ 1 ∷ []) ∷ []) [] (1 ∷ 2 ∷ 0 ∷ 0 ∷ 1 ∷ 0 ∷ 0 ∷ [])) 200 0 (multiples 0 72)
    ≡ Ok (record { pairs = pair 2 3 ∷ pair 0 1 ∷ pair 4 5 ∷ []; taken = 72 })
unfolding bisection bisect initial coarsen fm gain cut hypergraph_of unit_of round_to round_away greedy_from kept named round add sub mul div neg lt le eq of_int
just_fits = refl

-- growth ends as half of the weight is reached
half_reached : bisection (network ((2 ∷ []) ∷ (4 ∷ 5 ∷ []) ∷ (0 ∷ 1 ∷ []) ∷ (6 ∷ []) ∷ []) [] (8 ∷ 8 ∷ 8 ∷ 8 ∷ 8 ∷ 8 ∷ 8 ∷ 8 ∷ [])) 0 3 (multiples golden 64)
    ≡ Ok (record { pairs = pair 0 3 ∷ pair 1 2 ∷ pair 4 5 ∷ []; taken = 64 })
unfolding bisection bisect initial coarsen fm gain cut hypergraph_of unit_of round_to round_away greedy_from kept named round add sub mul div neg lt le eq of_int
half_reached = refl

-- of two tries with one cut the first stands
first_least : bisection (network ((0 ∷ []) ∷ (0 ∷ []) ∷ (1 ∷ []) ∷ []) [] (0 ∷ 2 ∷ [])) 900 2 (multiples golden 55)
    ≡ Ok (record { pairs = pair 1 2 ∷ pair 0 3 ∷ []; taken = 55 })
unfolding bisection bisect initial coarsen fm gain cut hypergraph_of unit_of round_to round_away greedy_from kept named round add sub mul div neg lt le eq of_int
first_least = refl

-- a second pass follows one that brings something
second_pass : bisection (network ((5 ∷ []) ∷ (5 ∷ 6 ∷ 7 ∷ 4 ∷ []) ∷ (0 ∷ 1 ∷ 2 ∷ 3 ∷ []) ∷ []) [] (1 ∷ 1 ∷ 1 ∷ 1 ∷ 1 ∷ 1 ∷ 1 ∷ 1 ∷ [])) 900 0 (multiples golden 60)
    ≡ Ok (record { pairs = pair 0 1 ∷ pair 2 3 ∷ []; taken = 60 })
unfolding bisection bisect initial coarsen fm gain cut hypergraph_of unit_of round_to round_away greedy_from kept named round add sub mul div neg lt le eq of_int
second_pass = refl

-- an entry takes the place of the one before
one_entry : bisection (network ((0 ∷ []) ∷ (1 ∷ []) ∷ (1 ∷ []) ∷ []) [] (8 ∷ 8 ∷ [])) 500 2 (multiples golden 64)
    ≡ Ok (record { pairs = pair 1 2 ∷ pair 0 3 ∷ []; taken = 64 })
unfolding bisection bisect initial coarsen fm gain cut hypergraph_of unit_of round_to round_away greedy_from kept named round add sub mul div neg lt le eq of_int
one_entry = refl

-- connections add up
links_add : bisection (network ((0 ∷ 2 ∷ 1 ∷ []) ∷ (1 ∷ 0 ∷ []) ∷ (3 ∷ []) ∷ []) [] (1 ∷ 0 ∷ 1 ∷ 1 ∷ 2 ∷ 1 ∷ [])) 1000 0 (multiples golden 64)
    ≡ Ok (record { pairs = pair 0 1 ∷ pair 2 3 ∷ []; taken = 64 })
unfolding bisection bisect initial coarsen fm gain cut hypergraph_of unit_of round_to round_away greedy_from kept named round add sub mul div neg lt le eq of_int
links_add = refl

-- a side may take one vertex more than half
one_more : bisection (network ((2 ∷ []) ∷ (2 ∷ []) ∷ (3 ∷ []) ∷ []) [] (8 ∷ 0 ∷ 0 ∷ 0 ∷ [])) 0 0 (multiples golden 55)
    ≡ Ok (record { pairs = pair 1 2 ∷ pair 0 3 ∷ []; taken = 55 })
unfolding bisection bisect initial coarsen fm gain cut hypergraph_of unit_of round_to round_away greedy_from kept named round add sub mul div neg lt le eq of_int
one_more = refl

-- the Rust has [1, 0] here, since an empty list of f64 sums to −0.0: see docs/DIFFERENCES.md
small_end : bisection (network ((0 ∷ []) ∷ [] ∷ (1 ∷ []) ∷ []) [] (0 ∷ 1 ∷ [])) 200 2 (multiples 0 48)
    ≡ Ok (record { pairs = pair 0 1 ∷ pair 2 3 ∷ []; taken = 48 })
unfolding bisection bisect initial coarsen fm gain cut hypergraph_of unit_of round_to round_away greedy_from kept named round add sub mul div neg lt le eq of_int
small_end = refl

-- ---- the imbalance, clamped ----

clamped_low : imbalance 0 ≡ decimal 1 1000
unfolding round lt
clamped_low = refl

clamped_high : imbalance 1000 ≡ decimal 9 10
unfolding round lt
clamped_high = refl

between : imbalance 250 ≡ decimal 1 4
unfolding round lt
between = refl

-- ---- coarser hypergraphs ----

abbrev net : List ℕ → ℕ → Net
net pins w = record { pins = pins; weight = whole_float w }

abbrev graph : List ℕ → List Net → Hypergraph
graph weights nets = record { weights = map whole_float weights; nets = nets }

-- two nets of weight 0: a neighbour over both is listed twice, and takes two draws
rated_again : coarsen (graph (1 ∷ 1 ∷ 1 ∷ 1 ∷ []) (net (0 ∷ 1 ∷ []) 0 ∷ net (0 ∷ 1 ∷ 2 ∷ []) 0 ∷ net (2 ∷ 3 ∷ []) 2 ∷ net (1 ∷ 3 ∷ []) 1 ∷ [])) (whole_float 3)
    (lent_words (multiples golden 20))
    ≡ drawn (Some (record {
      graph = graph (1 ∷ 1 ∷ 2 ∷ []) (net (0 ∷ 1 ∷ []) 0 ∷ net (0 ∷ 1 ∷ 2 ∷ []) 0 ∷ net (1 ∷ 2 ∷ []) 1 ∷ []);
      places = 0 ∷ 1 ∷ 2 ∷ 2 ∷ [];
    })) (lent_words (drop 8 (multiples golden 20)))
unfolding coarsen unit_of round add sub mul div neg lt le eq of_int
rated_again = refl

-- two vertices that are too heavy together are not matched
too_heavy : coarsen (graph (1 ∷ 2 ∷ 1 ∷ []) (net (0 ∷ 1 ∷ 2 ∷ []) 8 ∷ [])) (decimal 5 2) (lent_words (multiples 0 20))
    ≡ drawn (Some (record { graph = graph (2 ∷ 2 ∷ []) (net (0 ∷ 1 ∷ []) 8 ∷ []); places = 0 ∷ 1 ∷ 0 ∷ [] })) (lent_words (drop 5 (multiples 0 20)))
unfolding coarsen unit_of round add sub mul div neg lt le eq of_int
too_heavy = refl

-- Samples of what the program writes, beside the table's, by computation. Assumes nothing.
use Rattle.std.specs.Prelude.{[], ◌∷◌, ◌≡◌, refl, ◌^◌, None, Some, Err}
use Rattle.spec.specs.declared.Refusal.TheVariants.{DrawsExhausted}
use Rattle.spec.specs.Network.{named}
use Rattle.spec.specs.Tree.{tree_at, valid, pairs_of, flat_of}
use Rattle.spec.specs.Price.{kept, listing}
use Rattle.spec.specs.Greedy.{greedy_from, greedy}
use Rattle.spec.specs.Improve.{weigh, keeps, passed, split_work, split_count, frontier, locals, reconf_node, visit, pass, array_for, improve}
use Rattle.spec.specs.Calls.{greedy_call, improve_call}
use Rattle.spec.specs.Program.{plan_of, program}
use Rattle.spec.specs.File.{plain, flagged}
use Rattle.spec.specs.Text.{ascii, last_digits, decimal, spaced, lines_of, plan_text, output_of}
use Rattle.laws.specs.Samples.{network}

-- a number has a digit at least, and no 0 in front of others
numbers : (decimal 0 ≡ ascii "0") × (decimal 9 ≡ ascii "9") × (decimal 10 ≡ ascii "10") × (decimal 107 ≡ ascii "107")
    × (decimal (2 ^ 64) ≡ ascii "18446744073709551616")
unfolding decimal last_digits
numbers = (refl, refl, refl, refl, refl)

-- no leaves
without_leaves : output_of (program (network [] [] []) None plain) ≡ ascii "plan 0 0\ntotal 0\nwidest -\nbits 0\nimproved 0\nsplits 0\n"
unfolding decimal last_digits spaced lines_of plan_text plan_of greedy_call improve_call improve greedy greedy_from flat_of valid pairs_of tree_at listing kept named weigh keeps passed split_work split_count frontier locals reconf_node visit pass array_for
without_leaves = refl

-- A step that keeps nothing ends after its size bits. The file's flags are printed, each on a line, rising.
nothing_kept : output_of (program (network ((0 ∷ 1 ∷ []) ∷ (1 ∷ 0 ∷ []) ∷ []) [] (8 ∷ 3 ∷ [])) (Some (1 ∷ 0 ∷ [])) (flagged (1 ∷ 1 ∷ [])))
    ≡ ascii "plan 2 2\nstep 2 1 0 0 0\ntotal 1\nwidest 0\nslice 0\nslice 1\nbits 11\nimproved 0\nsplits 0\n"
unfolding decimal last_digits spaced lines_of plan_text plan_of improve_call improve flat_of valid pairs_of tree_at listing kept named weigh keeps passed split_work split_count frontier locals reconf_node visit pass array_for
nothing_kept = refl

-- refusals: a tree that is not valid, an index in just one leaf, and the number of two digits that no input here brings
refusals : (output_of (program (network ([] ∷ [] ∷ []) [] []) (Some (0 ∷ 0 ∷ [])) plain) ≡ ascii "refused 8\n")
    × (output_of (program (network ((0 ∷ []) ∷ []) [] (1 ∷ [])) None plain) ≡ ascii "refused 11\n")
    × (output_of (Err DrawsExhausted) ≡ ascii "refused 13\n")
unfolding decimal last_digits spaced plan_of improve_call flat_of valid pairs_of tree_at listing kept named greedy_call greedy greedy_from
refusals = (refl, refl, refl)

-- What pricing's entry answers, and what it leaves in each lent list. Assumes nothing.
use Rattle.std.specs.Prelude.{Bool, ◌||◌, List, [], ◌∷◌, ◌≡◌, ℕ, ◌+◌, ◌-◌, ◌*◌, ltb, length, Result, Err, Ok}
use Rattle.spec.specs.Lists.{memb, anyb}
use Rattle.spec.specs.Refusal.{checked}
use Rattle.spec.specs.declared.Refusal.{Refusal}
use Rattle.spec.specs.Network.{Network}
use Rattle.spec.specs.Tree.{pairs_of}
use Rattle.spec.specs.declared.Prices.{Prices}
use Rattle.spec.specs.Price.{list_at, price_of}
use Rattle.spec.specs.Calls.{lent, plain_words, set_words, step_numbers, node_places, tree_check, flags_check, flag_at, PriceRoom, price_call, workspace_after, priced_steps, priced_sizes, priced_works}
use Rattle.nodesets.specs.Passes.{with_sets}
use Rattle.pricing.specs.Promise.{ListingSound}

-- what a caller is told of a call: that it is done, or why not
abbrev pub told : {A : Type 0} → Result A Refusal → Result (Unit {0}) Refusal
told (Err r) = Err r
told (Ok x) = Ok tt

-- the lengths of the lent lists
abbrev pub room : (sets sizes works steps : ℕ) → PriceRoom
room sets sizes works steps = record { sets = sets; sizes = sizes; works = works; steps = steps }

-- the sets afterwards: slot v has the list of node v, and every other word is as it was
abbrev pub priced_sets : Network → List ℕ → Result Prices Refusal → List ℕ → List ℕ
priced_sets N kids (Err r) l = l
priced_sets N kids (Ok p) l = with_sets l set_words (λ v j. memb j (list_at N (pairs_of kids) v)) (node_places N)

-- the answer and the lists follow the call c, and the listing that is handed out is sound
pub record Answered (N : Network) (flags kids : List ℕ) (c : Result Prices Refusal) (sets₀ sizes₀ works₀ steps₀ sets sizes works steps : List ℕ) (r : Result Prices Refusal) : Type 0 where
  pub answer : r ≡ c
  pub steps_are : steps ≡ priced_steps N flags kids c steps₀
  pub sets_are : sets ≡ priced_sets N kids c sets₀
  pub sizes_are : sizes ≡ priced_sizes N flags kids c sizes₀
  pub works_are : works ≡ priced_works N flags kids c works₀
  pub sound : (p : Prices) → c ≡ Ok p → ListingSound set_words N (flag_at flags) (pairs_of kids) sets steps

-- the whole promise: the call is pricing's, and the stated words are cleared
pub record TreeCost (N : Network) (flags kids ws₀ sets₀ sizes₀ works₀ steps₀ ws sets sizes works steps : List ℕ) (r : Result Prices Refusal) : Type 0 where
  pub answered : Answered N flags kids (price_call N (length ws₀) (room (length sets₀) (length sizes₀) (length works₀) (length steps₀)) flags kids)
      sets₀ sizes₀ works₀ steps₀ sets sizes works steps r
  pub workspace : ws ≡ workspace_after plain_words (price_call N (length ws₀) (room (length sets₀) (length sizes₀) (length works₀) (length steps₀)) flags kids) ws₀

-- ---- the conditions on n leaves and m indices ----

unfoldable pub too_few : (n words sets sizes works steps : ℕ) → Bool
too_few n words sets sizes works steps =
    anyb (λ x. ltb x.has x.needs) (
    lent words plain_words
    ∷ lent sets ((n + (n - 1)) * set_words)
    ∷ lent sizes (n + (n - 1))
    ∷ lent works (n + (n - 1))
    ∷ lent steps ((n - 1) * step_numbers)
    ∷ [])

unfoldable pub wrong_flags : ℕ → List ℕ → Bool
wrong_flags m flags = ltb m (length flags) || anyb (λ b. ltb 1 b) flags

-- the call where the network is accepted and the lists are long enough
unfoldable pub rest_call : Network → List ℕ → List ℕ → Result Prices Refusal
rest_call N flags kids = checked (tree_check N kids ∷ flags_check N flags ∷ []) (Ok (price_of N (flag_at flags) (pairs_of kids)))

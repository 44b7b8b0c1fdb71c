-- What the entries answer: number and values of each case; the calls once the network is accepted; laws of both. Assumes nothing.
use Rattle.std.specs.Prelude.{◌≡◌, refl, Bool, true, false, not, ◌||◌, ℕ, ◌-◌, ◌≤◌, ◌<◌, ltb, length, Some, None, Result, Err, Ok}
use Rattle.std.proofs.Common.{◌∙◌}
use Rattle.std.proofs.Math.Path.{ap}
use mathlib.Core.List.{List, [], ◌∷◌}
use Rattle.spec.specs.declared.Refusal.TheVariants.{InvalidTree, ShortBuffer}
use Rattle.spec.specs.declared.Refusal.{Refusal}
use borrow.Author.Tests.{lt-ltb, le-ltb, not-true, not-false}
use Rattle.spec.specs.Lists.{anyb}
use Rattle.spec.specs.Refusal.{code_of, Check, check, checked}
use Rattle.spec.specs.Network.{Network, leaf_count, refusal_of}
use Rattle.spec.specs.Memory.{cleared}
use Rattle.spec.specs.Tree.{step_order, same_plan, pairs_of}
use Rattle.spec.specs.Calls.{Lent, lent, length_check, plain_words, step_places, wrong_tree, tree_check, valid_call, order_call, same_call, workspace_after}
use Rattle.laws.specs.Booleans.{clash}
use Rattle.walk.specs.Entry.{Untouched, by_network, network_refused, past_network, by_length, too_short, past_length, holds_first, passes_first}

-- ---- answers ----

-- how many steps are written
abbrev pub counted : Result (List ℕ) Refusal → Result ℕ Refusal
counted (Err r) = Err r
counted (Ok steps) = Ok (length steps)

-- ---- the calls on n leaves, the network's own checks aside ----

abbrev pub right_tree : ℕ → List ℕ → Check
right_tree n kids = check (wrong_tree n kids) InvalidTree

unfoldable pub valid_in : ℕ → ℕ → List ℕ → Result (Unit {0}) Refusal
valid_in n words kids = checked (length_check (lent words plain_words ∷ []) ∷ right_tree n kids ∷ []) (Ok tt)

unfoldable pub order_in : ℕ → ℕ → ℕ → List ℕ → Result (List ℕ) Refusal
order_in n words places kids =
    checked (length_check (lent words plain_words ∷ lent places (n - 1) ∷ []) ∷ right_tree n kids ∷ []) (Ok (step_order kids n))

-- a tree, once the lists are long enough
unfoldable pub ordered : ℕ → List ℕ → Result (List ℕ) Refusal
ordered n kids = checked (right_tree n kids ∷ []) (Ok (step_order kids n))

-- two trees, once the workspace is long enough
unfoldable pub compared : ℕ → List ℕ → List ℕ → Result Bool Refusal
compared n kids others = checked (right_tree n kids ∷ right_tree n others ∷ []) (Ok (same_plan n (pairs_of kids) (pairs_of others)))

unfoldable pub same_in : ℕ → ℕ → List ℕ → List ℕ → Result Bool Refusal
same_in n words kids others =
    checked (length_check (lent words plain_words ∷ []) ∷ right_tree n kids ∷ right_tree n others ∷ []) (Ok (same_plan n (pairs_of kids) (pairs_of others)))

was_wrong : (b w : Bool) → b ≡ not w → b ≡ false → w ≡ true
was_wrong b true e f = refl
was_wrong b false e f = clash e f

was_right : (b w : Bool) → b ≡ not w → b ≡ true → w ≡ false
was_right b true e f = clash f e
was_right b false e f = refl

-- a workspace shorter than stated, or long enough
short_words : (words : ℕ) → words < plain_words → (ltb words plain_words || false) ≡ true
short_words words h = rw (lt-ltb words plain_words h)

long_words : (words : ℕ) → plain_words ≤ words → (ltb words plain_words || false) ≡ false
long_words words h = rw (le-ltb words plain_words h)

module _ (n words : ℕ) (kids : List ℕ) where
  pub valid_short : words < plain_words → Untouched 7 (valid_in n words kids)
  unfolding valid_in
  valid_short h = by_length (lent words plain_words ∷ []) (right_tree n kids ∷ []) (Ok tt) (short_words words h)

  pub valid_short_err : words < plain_words → valid_in n words kids ≡ Err ShortBuffer
  unfolding valid_in
  valid_short_err h = too_short (lent words plain_words ∷ []) (right_tree n kids ∷ []) (Ok tt) (short_words words h)

  module _ (h : plain_words ≤ words) (b : Bool) (e : b ≡ not (wrong_tree n kids)) where
    pub valid_done : b ≡ true → valid_in n words kids ≡ Ok tt
    unfolding valid_in
    valid_done f =
        past_length (lent words plain_words ∷ []) (right_tree n kids ∷ []) (Ok tt) (long_words words h)
        ∙ passes_first (right_tree n kids) [] (Ok tt) (was_right b (wrong_tree n kids) e f)

    pub valid_wrong : b ≡ false → valid_in n words kids ≡ Err InvalidTree
    unfolding valid_in
    valid_wrong f =
        past_length (lent words plain_words ∷ []) (right_tree n kids ∷ []) (Ok tt) (long_words words h)
        ∙ holds_first (right_tree n kids) [] (Ok tt) (was_wrong b (wrong_tree n kids) e f)

module _ (n words places : ℕ) (kids : List ℕ) where
  abbrev lents : List Lent
  lents = lent words plain_words ∷ lent places (n - 1) ∷ []

  pub order_short : words < plain_words → Untouched 7 (order_in n words places kids)
  unfolding order_in
  order_short h = by_length lents (right_tree n kids ∷ []) (Ok (step_order kids n)) (rw (lt-ltb words plain_words h))

  pub order_short_err : words < plain_words → order_in n words places kids ≡ Err ShortBuffer
  unfolding order_in
  order_short_err h = too_short lents (right_tree n kids ∷ []) (Ok (step_order kids n)) (rw (lt-ltb words plain_words h))

  pub order_few : plain_words ≤ words → places < n - 1 → Untouched 7 (order_in n words places kids)
  unfolding order_in
  order_few h q = by_length lents (right_tree n kids ∷ []) (Ok (step_order kids n)) (rw (le-ltb words plain_words h, lt-ltb places (n - 1) q))

  pub order_few_err : plain_words ≤ words → places < n - 1 → order_in n words places kids ≡ Err ShortBuffer
  unfolding order_in
  order_few_err h q = too_short lents (right_tree n kids ∷ []) (Ok (step_order kids n)) (rw (le-ltb words plain_words h, lt-ltb places (n - 1) q))

  enough : plain_words ≤ words → n - 1 ≤ places → anyb (λ x. ltb x.has x.needs) lents ≡ false
  enough h q = rw (le-ltb words plain_words h, le-ltb places (n - 1) q)

  pub order_ordered : plain_words ≤ words → n - 1 ≤ places → order_in n words places kids ≡ ordered n kids
  unfolding order_in ordered
  order_ordered h q = past_length lents (right_tree n kids ∷ []) (Ok (step_order kids n)) (enough h q)

module _ (n : ℕ) (kids : List ℕ) where
  pub ordered_wrong : wrong_tree n kids ≡ true → ordered n kids ≡ Err InvalidTree
  unfolding ordered
  ordered_wrong h = holds_first (right_tree n kids) [] (Ok (step_order kids n)) h

  pub ordered_right : wrong_tree n kids ≡ false → ordered n kids ≡ Ok (step_order kids n)
  unfolding ordered
  ordered_right h = passes_first (right_tree n kids) [] (Ok (step_order kids n)) h

  ordered_either : (x : Bool) (ws : List ℕ) → workspace_after plain_words (checked (check x InvalidTree ∷ []) (Ok (step_order kids n))) ws ≡ cleared ws plain_words
  ordered_either true ws = refl
  ordered_either false ws = refl

  -- whatever the answer, the workspace is cleared
  pub ordered_words : (ws : List ℕ) → workspace_after plain_words (ordered n kids) ws ≡ cleared ws plain_words
  unfolding ordered
  ordered_words ws = ordered_either (wrong_tree n kids) ws

module _ (n words places : ℕ) (kids : List ℕ) (h : plain_words ≤ words) (q : n - 1 ≤ places) (b : Bool) (e : b ≡ not (wrong_tree n kids)) where
  pub order_done : not b ≡ false → order_in n words places kids ≡ Ok (step_order kids n)
  order_done f = order_ordered n words places kids h q ∙ ordered_right n kids (was_right b (wrong_tree n kids) e (not-false b f))

  pub order_wrong : not b ≡ true → order_in n words places kids ≡ Err InvalidTree
  order_wrong f = order_ordered n words places kids h q ∙ ordered_wrong n kids (was_wrong b (wrong_tree n kids) e (not-true b f))

  pub order_right : not b ≡ false → wrong_tree n kids ≡ false
  order_right f = was_right b (wrong_tree n kids) e (not-false b f)

module _ (n : ℕ) (kids others : List ℕ) where
  abbrev verdict : Result Bool Refusal
  verdict = Ok (same_plan n (pairs_of kids) (pairs_of others))

  pub compared_first : (b : Bool) → b ≡ not (wrong_tree n kids) → not b ≡ true → compared n kids others ≡ Err InvalidTree
  unfolding compared
  compared_first b e f = holds_first (right_tree n kids) (right_tree n others ∷ []) verdict (was_wrong b (wrong_tree n kids) e (not-true b f))

  pub tree_right : (kids : List ℕ) (b : Bool) → b ≡ not (wrong_tree n kids) → not b ≡ false → wrong_tree n kids ≡ false
  tree_right kids b e f = was_right b (wrong_tree n kids) e (not-false b f)

  pub compared_second : wrong_tree n kids ≡ false → (b : Bool) → b ≡ not (wrong_tree n others) → not b ≡ true → compared n kids others ≡ Err InvalidTree
  unfolding compared
  compared_second h b e f =
      passes_first (right_tree n kids) (right_tree n others ∷ []) verdict h
      ∙ holds_first (right_tree n others) [] verdict (was_wrong b (wrong_tree n others) e (not-true b f))

  pub compared-done : wrong_tree n kids ≡ false → wrong_tree n others ≡ false → compared n kids others ≡ Ok (same_plan n (pairs_of kids) (pairs_of others))
  unfolding compared
  compared-done h q = passes_first (right_tree n kids) (right_tree n others ∷ []) verdict h ∙ passes_first (right_tree n others) [] verdict q

  -- whatever the comparison answers, the workspace is cleared
  cleared_either : (x y : Bool) (stated : ℕ) (ws : List ℕ)
      → workspace_after stated (checked (check x InvalidTree ∷ check y InvalidTree ∷ []) verdict) ws ≡ cleared ws stated
  cleared_either true y stated ws = refl
  cleared_either false true stated ws = refl
  cleared_either false false stated ws = refl

  pub same_short : (words : ℕ) → words < plain_words → Untouched 7 (same_in n words kids others)
  unfolding same_in
  same_short words h = by_length (lent words plain_words ∷ []) (right_tree n kids ∷ right_tree n others ∷ []) verdict (short_words words h)

  pub same_short_err : (words : ℕ) → words < plain_words → same_in n words kids others ≡ Err ShortBuffer
  unfolding same_in
  same_short_err words h = too_short (lent words plain_words ∷ []) (right_tree n kids ∷ right_tree n others ∷ []) verdict (short_words words h)

  pub same_compared : (words : ℕ) → plain_words ≤ words → same_in n words kids others ≡ compared n kids others
  unfolding same_in compared
  same_compared words h = past_length (lent words plain_words ∷ []) (right_tree n kids ∷ right_tree n others ∷ []) verdict (long_words words h)

  pub compared_words : (ws : List ℕ) → workspace_after plain_words (compared n kids others) ws ≡ cleared ws plain_words
  unfolding compared
  compared_words ws = cleared_either (wrong_tree n kids) (wrong_tree n others) plain_words ws

-- ---- the network decides first ----

module _ (N : Network) (words : ℕ) (kids : List ℕ) where
  pub valid_refused : (k : ℕ) → k ≡ code_of (refusal_of N) → (k ≡ 0 → ⊥) → Untouched k (valid_call N words kids)
  unfolding valid_call
  valid_refused k e z = by_network N (length_check (lent words plain_words ∷ []) ∷ tree_check N kids ∷ []) (Ok tt) k e z

  pub valid_err : (r : Refusal) → refusal_of N ≡ Some r → valid_call N words kids ≡ Err r
  unfolding valid_call
  valid_err r e = network_refused N (length_check (lent words plain_words ∷ []) ∷ tree_check N kids ∷ []) (Ok tt) r e

  pub valid_accepted : (n : ℕ) → refusal_of N ≡ None → leaf_count N ≡ n → valid_call N words kids ≡ valid_in n words kids
  unfolding valid_call valid_in
  valid_accepted n e q =
      past_network N (length_check (lent words plain_words ∷ []) ∷ tree_check N kids ∷ []) (Ok tt) e
      ∙ ap (λ (n : ℕ). checked (length_check (lent words plain_words ∷ []) ∷ right_tree n kids ∷ []) (Ok tt)) q

module _ (N : Network) (words places : ℕ) (kids : List ℕ) where
  abbrev order_rest : List Check
  order_rest = length_check (lent words plain_words ∷ lent places (step_places N) ∷ []) ∷ tree_check N kids ∷ []

  pub order_refused : (k : ℕ) → k ≡ code_of (refusal_of N) → (k ≡ 0 → ⊥) → Untouched k (order_call N words places kids)
  unfolding order_call
  order_refused k e z = by_network N order_rest (Ok (step_order kids (leaf_count N))) k e z

  pub order_err : (r : Refusal) → refusal_of N ≡ Some r → order_call N words places kids ≡ Err r
  unfolding order_call
  order_err r e = network_refused N order_rest (Ok (step_order kids (leaf_count N))) r e

  pub order_accepted : (n : ℕ) → refusal_of N ≡ None → leaf_count N ≡ n → order_call N words places kids ≡ order_in n words places kids
  unfolding order_call order_in
  order_accepted n e q =
      past_network N order_rest (Ok (step_order kids (leaf_count N))) e
      ∙ ap (λ (n : ℕ). checked (length_check (lents n words places kids) ∷ right_tree n kids ∷ []) (Ok (step_order kids n))) q

module _ (N : Network) (words : ℕ) (kids others : List ℕ) where
  abbrev same_rest : List Check
  same_rest = length_check (lent words plain_words ∷ []) ∷ tree_check N kids ∷ tree_check N others ∷ []

  pub same_refused : (k : ℕ) → k ≡ code_of (refusal_of N) → (k ≡ 0 → ⊥) → Untouched k (same_call N words kids others)
  unfolding same_call
  same_refused k e z = by_network N same_rest (verdict (leaf_count N) kids others) k e z

  pub same_err : (r : Refusal) → refusal_of N ≡ Some r → same_call N words kids others ≡ Err r
  unfolding same_call
  same_err r e = network_refused N same_rest (verdict (leaf_count N) kids others) r e

  pub same_accepted : (n : ℕ) → refusal_of N ≡ None → leaf_count N ≡ n → same_call N words kids others ≡ same_in n words kids others
  unfolding same_call same_in
  same_accepted n e q =
      past_network N same_rest (verdict (leaf_count N) kids others) e
      ∙ ap (λ (n : ℕ). checked (length_check (lent words plain_words ∷ []) ∷ right_tree n kids ∷ right_tree n others ∷ []) (verdict n kids others)) q

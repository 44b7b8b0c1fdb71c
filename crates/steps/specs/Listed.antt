-- The call of pricing for a list of records. Assumes nothing.
use Rattle.std.specs.Prelude.{Bool, true, List, [], ◌∷◌, ◌≡◌, refl, ℕ, ◌*◌, ◌<◌, ◌≤◌, ltb, length, take, drop, Option, None, Some, Result, Err, Ok}
use Rattle.std.proofs.Math.Bool.{false}
use Rattle.std.proofs.Common.{sym, ap, subst, ◌∙◌, arith, take_at, le-ltb}
use Rattle.spec.specs.Lists.{anyb}
use Rattle.spec.specs.Memory.{over}
use Rattle.spec.specs.declared.Prices.{Prices}
use Rattle.spec.specs.declared.Refusal.{Refusal}
use Rattle.spec.specs.declared.Refusal.TheVariants.{ShortBuffer}
use Rattle.spec.specs.Refusal.{code_of, check, decide, checked}
use Rattle.spec.specs.Network.{Network, leaf_count, network_checks, refusal_of}
use Rattle.spec.specs.Tree.{valid, pairs_of}
use Rattle.spec.specs.Price as price
use Rattle.spec.specs.Price.{flat_steps, price_of}
use Rattle.spec.specs.Calls.{Lent, lent, length_check, tree_check, flags_check, flag_at, plain_words, set_words, step_numbers, step_places, node_places, price_checks, price_call}
use Rattle.laws.specs.Booleans.{by_cases}
use Rattle.laws.specs.Results.{checked_done}
use Rattle.laws.specs.FileFields.{fails_tree}
use Rattle.laws.specs.FileLists.{over_front}
use Rattle.pricing.specs.Handed.{flat_length}
use Rattle.cost.specs.Answers.{room, too_few}
use Rattle.cost.specs.Checks.{refused_untouched, few_untouched, call_few, long_enough}
use Rattle.memory.specs.Call.{checked-append}
use Rattle.memory.specs.Numbers.{or_short}
use Rattle.network.specs.Codes.{positive}
use Rattle.walk.specs.Entry.{Untouched}

-- the call with a list of so many records, five numbers a record
abbrev pub records_call : Network → (words sets sizes works places : ℕ) → List ℕ → List ℕ → Result Prices Refusal
records_call N words sets sizes works places flags kids = price_call N words (room sets sizes works (places * 5)) flags kids

-- ---- the call ----

module _ (N : Network) (words sets sizes works : ℕ) (flags kids : List ℕ) where
  abbrev call : ℕ → Result Prices Refusal
  call steps = price_call N words (room sets sizes works steps) flags kids

  abbrev lents : ℕ → List Lent
  lents steps =
      lent words plain_words
      ∷ lent sets (node_places N * set_words)
      ∷ lent sizes (node_places N)
      ∷ lent works (node_places N)
      ∷ lent steps (step_places N * step_numbers)
      ∷ []

  abbrev few : ℕ → Bool
  few steps = anyb (λ x. ltb x.has x.needs) (lents steps)

  abbrev after : Bool → Result Prices Refusal
  after b = checked (check b ShortBuffer ∷ tree_check N kids ∷ flags_check N flags ∷ []) (Ok (price_of N (flag_at flags) (pairs_of kids)))

  in_parts : (steps : ℕ) → call steps ≡ decide (refusal_of N) (after (few steps))
  unfolding price_call
  in_parts steps =
      checked-append (network_checks false N) (length_check (lents steps) ∷ tree_check N kids ∷ flags_check N flags ∷ []) (Ok (price_of N (flag_at flags) (pairs_of kids)))

  same_few : (s t : ℕ) → step_places N * 5 ≤ s → step_places N * 5 ≤ t → few s ≡ few t
  same_few s t h k = rw (le-ltb s (step_places N * 5) h, le-ltb t (step_places N * 5) k)

  -- two lists that are both long enough for an accepted network
  same_cases : (o : Option Refusal) (s t : ℕ) → (o ≡ None → step_places N * 5 ≤ s) → (o ≡ None → step_places N * 5 ≤ t)
      → decide o (after (few s)) ≡ decide o (after (few t))
  same_cases None s t h k = ap after (same_few s t (h refl) (k refl))
  same_cases (Some r) s t h k = refl

  pub same_call : (s t : ℕ) → (refusal_of N ≡ None → step_places N * 5 ≤ s) → (refusal_of N ≡ None → step_places N * 5 ≤ t) → call s ≡ call t
  same_call s t h k = in_parts s ∙ same_cases (refusal_of N) s t h k ∙ sym (in_parts t)

  -- an accepted network's steps do not fit
  pub short_call : (s : ℕ) → refusal_of N ≡ None → s < step_places N * 5 → call s ≡ Err ShortBuffer
  short_call s e h =
      call_few N flags kids words sets sizes works s (leaf_count N) refl e
      (by_cases (too_few (leaf_count N) words sets sizes works s) (λ t. t) (λ f.
      absurd (omega (arith, (long_enough (leaf_count N) words sets sizes works s f).for_steps))))

  -- a list that is too short for an accepted network: refused with the network's number or with 7, and nothing is touched
  short_cases : (o : Option Refusal) {r : ℕ} (s : ℕ) → refusal_of N ≡ o → s < step_places N * 5 → r ≡ or_short o → Untouched r (call s)
  short_cases None s e h q =
      subst (λ (k : ℕ). Untouched k (call s)) (sym q)
      (few_untouched N flags kids words sets sizes works s (leaf_count N) refl e
      (by_cases (too_few (leaf_count N) words sets sizes works s) (λ t. t) (λ f.
      absurd (omega (arith, (long_enough (leaf_count N) words sets sizes works s f).for_steps)))))
  short_cases (Some k) {r} s e h q =
      refused_untouched N flags kids words sets sizes works s r (q ∙ sym (ap code_of e)) (λ z. omega (arith, positive k, q))

  pub short_untouched : {r : ℕ} (s : ℕ) → s < step_places N * 5 → r ≡ or_short (refusal_of N) → Untouched r (call s)
  short_untouched s = short_cases (refusal_of N) s refl

  -- where pricing answers, the tree is valid and the list has a place for each number
  pub answered : (s : ℕ) (p : Prices) → call s ≡ Ok p → (valid (leaf_count N) (pairs_of kids) ≡ true) × (step_places N * 5 ≤ s)
  unfolding price_call too_few
  answered s p e =
      let (f, q) = checked_done (price_checks N words (room sets sizes works s) flags kids) (Ok (price_of N (flag_at flags) (pairs_of kids))) p e in
      ((fails_tree N kids (f.1.1.1.1.1.0, tt)).1, (long_enough (leaf_count N) words sets sizes works s f.1.1.1.1.0).for_steps)

-- ---- the listing ----

-- the listing's flat list in front of a list
pub taken : (l : List price.Step) (n : ℕ) (s : List ℕ) → length l ≡ n → n * 5 ≤ length s → take (n * 5) (over s (flat_steps l)) ≡ flat_steps l
taken l n s e h =
    let k : length (flat_steps l) ≡ n * 5 = omega (arith, flat_length l) in
    ap (take (n * 5)) (over_front s (flat_steps l) (omega arith)) ∙ take_at (flat_steps l) (drop (length (flat_steps l)) s) (n * 5) k

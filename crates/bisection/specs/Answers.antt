-- What the entry answers: the values of each case; the call once the network is accepted; laws of both. Assumes nothing.
use Rattle.std.specs.Prelude.{Bool, true, false, ◌≡◌, refl, List, [], ◌∷◌, ◌++◌, ℕ, ◌-◌, ◌≤◌, ◌<◌, ltb, length, None, Some, Result, Err, Ok}
use Rattle.std.proofs.Common.{sym, ap, subst, ◌∙◌, arith}
use Rattle.spec.specs.declared.Refusal.{Refusal}
use Rattle.spec.specs.declared.Refusal.TheVariants.{TooLarge, ShortBuffer}
use borrow.Author.Tests.{lt-ltb, le-ltb}
use Rattle.spec.specs.Memory.{copied, cleared}
use Rattle.spec.specs.Network.{Network, network_checks, refusal_of}
use Rattle.spec.specs.Draws.{Words}
use Rattle.spec.specs.Tree.{flat_of}
use Rattle.spec.specs.Refusal.{code_of, checked}
use Rattle.spec.specs.Calls.{Lent, lent, length_check, bisection_words, tree_places, bisection_call, touches, workspace_after, bisected_tree}
use Rattle.spec.specs.Bisection as spec
use Rattle.spec.specs.Bisection.{bisection}
use Rattle.merging.specs.Removed.{flat_length}
use Rattle.walk.specs.Entry.{Untouched, by_network, by_length, past_network, past_length, network_refused, too_short, quiet_words, quiet_list, done_words, refused_words}
use Rattle.bisect.specs.Cases.{ok_or_err, same_err}
use Rattle.bisection.specs.Whole.{Whole, is_refused, is_plan, copied_out}

-- refused, or the words taken
abbrev pub taken_of : Result spec.Bisected Refusal → Result ℕ Refusal
taken_of (Err r) = Err r
taken_of (Ok b) = Ok b.taken

-- the call, the imbalance's and the network's own checks aside
unfoldable pub bisection_in : Network → ℕ → ℕ → List ℕ → ℕ → ℕ → Result spec.Bisected Refusal
bisection_in N i cutoff draws words places =
    checked (length_check (lent words bisection_words ∷ lent places (tree_places N) ∷ []) ∷ []) (bisection N i cutoff draws)

module _ (N : Network) (i cutoff : ℕ) (draws : List ℕ) (words places : ℕ) where
  abbrev lents : List Lent
  lents = lent words bisection_words ∷ lent places (tree_places N) ∷ []

  few_words : words < bisection_words → bisection_in N i cutoff draws words places ≡ Err ShortBuffer
  unfolding bisection_in
  few_words h = too_short lents [] (bisection N i cutoff draws) (rw (lt-ltb words bisection_words h))

  few_places : bisection_words ≤ words → places < tree_places N → bisection_in N i cutoff draws words places ≡ Err ShortBuffer
  unfolding bisection_in
  few_places h q = too_short lents [] (bisection N i cutoff draws) (rw (le-ltb words bisection_words h, lt-ltb places (tree_places N) q))

  -- with its number, and nothing is touched
  few_words_untouched : words < bisection_words → Untouched 7 (bisection_in N i cutoff draws words places)
  unfolding bisection_in
  few_words_untouched h = by_length lents [] (bisection N i cutoff draws) (rw (lt-ltb words bisection_words h))

  few_places_untouched : bisection_words ≤ words → places < tree_places N → Untouched 7 (bisection_in N i cutoff draws words places)
  unfolding bisection_in
  few_places_untouched h q = by_length lents [] (bisection N i cutoff draws) (rw (le-ltb words bisection_words h, lt-ltb places (tree_places N) q))

  bisection_runs : bisection_words ≤ words → tree_places N ≤ places → bisection_in N i cutoff draws words places ≡ bisection N i cutoff draws
  unfolding bisection_in
  bisection_runs h q = past_length lents [] (bisection N i cutoff draws) (rw (le-ltb words bisection_words h, le-ltb places (tree_places N) q))

  abbrev whole : Result spec.Bisected Refusal
  whole = bisection_call N i cutoff draws words places

  -- too much imbalance
  pub call_large : 1000 < i → whole ≡ Err TooLarge
  unfolding bisection_call
  call_large h = holds_large (ltb 1000 i) (lt-ltb 1000 i h)
    where
      holds_large : (b : Bool) → b ≡ true → checked (network_checks b N ++ (length_check lents ∷ [])) (bisection N i cutoff draws) ≡ Err TooLarge
      holds_large b e = rw e

  -- with its number, and nothing is touched
  pub large_untouched : 1000 < i → Untouched 3 whole
  large_untouched h = record { refusal = TooLarge; is = call_large h; number = refl; quiet = refl }

  module _ (few : i ≤ 1000) where
    balanced : whole ≡ checked (network_checks false N ++ (length_check lents ∷ [])) (bisection N i cutoff draws)
    unfolding bisection_call
    balanced = ap (λ (b : Bool). checked (network_checks b N ++ (length_check lents ∷ [])) (bisection N i cutoff draws)) (le-ltb 1000 i few)

    -- the network is refused, or accepted
    pub call_refused : (r : Refusal) → refusal_of N ≡ Some r → whole ≡ Err r
    call_refused r e = balanced ∙ network_refused N (length_check lents ∷ []) (bisection N i cutoff draws) r e

    -- with its number, and nothing is touched
    pub refused_untouched : (k : ℕ) → k ≡ code_of (refusal_of N) → (k ≡ 0 → ⊥) → Untouched k whole
    refused_untouched k e z = subst (Untouched k) (sym balanced) (by_network N (length_check lents ∷ []) (bisection N i cutoff draws) k e z)

    pub call_accepted : refusal_of N ≡ None → whole ≡ bisection_in N i cutoff draws words places
    unfolding bisection_in
    call_accepted e = balanced ∙ past_network N (length_check lents ∷ []) (bisection N i cutoff draws) e

-- ---- what the call leaves behind ----

-- the answer, the tree and the workspace afterwards, as a call has them
pub record Leaves (call : Result spec.Bisected Refusal) (tree tree' ws ws' : List ℕ) (r : Result ℕ Refusal) : Type 0 where
  pub answer : r ≡ taken_of call
  pub plan : tree' ≡ bisected_tree call tree
  pub workspace : ws' ≡ workspace_after bisection_words call ws

-- refused with nothing touched
pub left_quiet : (call : Result spec.Bisected Refusal) (tree ws : List ℕ) (r : Refusal) → call ≡ Err r → touches r ≡ false → Leaves call tree tree ws ws (Err r)
left_quiet call tree ws r e q =
    record {
      answer = sym (ap taken_of e);
      plan = quiet_list call r (λ b. flat_of b.pairs) tree e;
      workspace = quiet_words bisection_words call r ws e q;
    }

-- the call on an accepted network
abbrev pub Answers : Network → ℕ → ℕ → List ℕ → (tree tree' ws ws' : List ℕ) → Result ℕ Refusal → Type 0
Answers N i cutoff draws tree tree' ws ws' r = Leaves (bisection_in N i cutoff draws (length ws) (length tree)) tree tree' ws ws' r

module _ (N : Network) (i cutoff : ℕ) (draws tree ws : List ℕ) where
  abbrev call : Result spec.Bisected Refusal
  call = bisection_in N i cutoff draws (length ws) (length tree)

  -- a list is too short
  pub answer_few_words : length ws < bisection_words → Answers N i cutoff draws tree tree ws ws (Err ShortBuffer)
  answer_few_words h = left_quiet call tree ws ShortBuffer (few_words N i cutoff draws (length ws) (length tree) h) refl

  pub answer_few_places : bisection_words ≤ length ws → length tree < tree_places N → Answers N i cutoff draws tree tree ws ws (Err ShortBuffer)
  answer_few_places h q = left_quiet call tree ws ShortBuffer (few_places N i cutoff draws (length ws) (length tree) h q) refl

  -- bisection ran, and the stated words are cleared
  module _ (h : bisection_words ≤ length ws) (q : tree_places N ≤ length tree) (ws' : List ℕ) (ew : ws' ≡ cleared ws bisection_words)
      (kids₀ kids : List ℕ) (answer : Result ℕ Refusal) (next : Words) (whole : Whole N i cutoff draws kids₀ kids answer next)
    where
      -- it is refused
      pub answer_refused : (r : Refusal) → answer ≡ Err r → Answers N i cutoff draws tree tree ws ws' (Err r)
      answer_refused r e = go whole
        where
          go : Whole N i cutoff draws kids₀ kids answer next → Answers N i cutoff draws tree tree ws ws' (Err r)
          go (is_refused s t f g) =
              let z : s ≡ r = same_err f e in
              let c : call ≡ Err r = bisection_runs N i cutoff draws (length ws) (length tree) h q ∙ g ∙ ap (λ (x : Refusal). Err x) z in
              record {
                answer = sym (ap taken_of c);
                plan = quiet_list call r (λ b. flat_of b.pairs) tree c;
                workspace = refused_words bisection_words ws ws' ew call r (sym (ap touches z) ∙ t) c;
              }
          go (is_plan top f u a g w l) = ok_or_err f e

      pub answer_done : (top : ℕ) → answer ≡ Ok top → (places : ℕ) → places ≡ tree_places N → places ≤ length kids₀ → (tree' : List ℕ)
          → tree' ≡ copied tree kids places → (taken : ℕ) → taken ≡ length draws - length next.left
          → Answers N i cutoff draws tree tree' ws ws' (Ok taken)
      answer_done top e places ep b tree' et taken ek = go whole
        where
          go : Whole N i cutoff draws kids₀ kids answer next → Answers N i cutoff draws tree tree' ws ws' (Ok taken)
          go (is_refused s t f g) = ok_or_err e f
          go (is_plan top f u a g w l) =
              let c : call ≡ Ok (record { pairs = a; taken = length draws - length next.left }) = bisection_runs N i cutoff draws (length ws) (length tree) h q ∙ g in
              record {
                answer = ap (λ (k : ℕ). Ok k) ek ∙ sym (ap taken_of c);
                plan = et ∙ copied_out tree kids₀ kids a places w (omega (arith, ep, l, flat_length a)) b
                    ∙ sym (ap (λ (x : Result spec.Bisected Refusal). bisected_tree x tree) c);
                workspace = done_words bisection_words ws ws' ew call (record { pairs = a; taken = length draws - length next.left }) c;
              }

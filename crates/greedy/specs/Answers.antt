-- What the entry answers: number and values of each case; the call once the network is accepted; laws of both. Assumes nothing.
use Rattle.std.specs.Prelude.{◌≡◌, refl, ℕ, ◌≤◌, ◌<◌, length, Some, None, Result, Err, Ok}
use Rattle.std.proofs.Common.{sym, ◌∙◌, ap}
use mathlib.Core.List.{List, [], ◌∷◌}
use Rattle.spec.specs.declared.Refusal.{Refusal}
use Rattle.spec.specs.declared.Refusal.TheVariants.{ShortBuffer, TableTooWide}
use borrow.Author.Tests.{lt-ltb, le-ltb}
use Rattle.spec.specs.Memory.{cleared}
use Rattle.spec.specs.Network.{Network, refusal_of}
use Rattle.spec.specs.Tree.{Pair, flat_of}
use Rattle.spec.specs.Refusal.{code_of, checked}
use Rattle.spec.specs.Calls.{Lent, lent, length_check, plain_words, tree_places, greedy_call, workspace_after, greedy_tree}
use Rattle.spec.specs.Greedy.{greedy}
use Rattle.walk.specs.Entry.{Untouched, by_network, by_length, past_network, past_length, network_refused, too_short, quiet_words, quiet_list, done_words, refused_words}
use Rattle.greedy.specs.Whole.{Grown, is_left, is_grown}

-- refused, or done
abbrev pub done_of : Result (List Pair) Refusal → Result (Unit {0}) Refusal
done_of (Err r) = Err r
done_of (Ok a) = Ok tt

-- the call, the network's own checks aside
unfoldable pub greedy_in : Network → ℕ → ℕ → Result (List Pair) Refusal
greedy_in N words places = checked (length_check (lent words plain_words ∷ lent places (tree_places N) ∷ []) ∷ []) (greedy N)

module _ (N : Network) (words places : ℕ) where
  abbrev lents : List Lent
  lents = lent words plain_words ∷ lent places (tree_places N) ∷ []

  pub few_words : words < plain_words → greedy_in N words places ≡ Err ShortBuffer
  unfolding greedy_in
  few_words h = too_short lents [] (greedy N) (rw (lt-ltb words plain_words h))

  pub few_places : plain_words ≤ words → places < tree_places N → greedy_in N words places ≡ Err ShortBuffer
  unfolding greedy_in
  few_places h q = too_short lents [] (greedy N) (rw (le-ltb words plain_words h, lt-ltb places (tree_places N) q))

  -- with its number, and nothing is touched
  pub few_words_untouched : words < plain_words → Untouched 7 (greedy_in N words places)
  unfolding greedy_in
  few_words_untouched h = by_length lents [] (greedy N) (rw (lt-ltb words plain_words h))

  pub few_places_untouched : plain_words ≤ words → places < tree_places N → Untouched 7 (greedy_in N words places)
  unfolding greedy_in
  few_places_untouched h q = by_length lents [] (greedy N) (rw (le-ltb words plain_words h, lt-ltb places (tree_places N) q))

  pub greedy_runs : plain_words ≤ words → tree_places N ≤ places → greedy_in N words places ≡ greedy N
  unfolding greedy_in
  greedy_runs h q = past_length lents [] (greedy N) (rw (le-ltb words plain_words h, le-ltb places (tree_places N) q))

  -- the network is refused, or accepted
  pub greedy_refused : (k : ℕ) → k ≡ code_of (refusal_of N) → (k ≡ 0 → ⊥) → Untouched k (greedy_call N words places)
  unfolding greedy_call
  greedy_refused k e z = by_network N (length_check lents ∷ []) (greedy N) k e z

  pub call_refused : (r : Refusal) → refusal_of N ≡ Some r → greedy_call N words places ≡ Err r
  unfolding greedy_call
  call_refused r e = network_refused N (length_check lents ∷ []) (greedy N) r e

  pub greedy_accepted : refusal_of N ≡ None → greedy_call N words places ≡ greedy_in N words places
  unfolding greedy_call greedy_in
  greedy_accepted e = past_network N (length_check lents ∷ []) (greedy N) e

-- ---- what the call leaves behind ----

-- the answer, the tree and the workspace afterwards, as the call on an accepted network has them
pub record Answers (N : Network) (tree tree' ws ws' : List ℕ) (r : Result (Unit {0}) Refusal) : Type 0 where
  pub answer : r ≡ done_of (greedy_in N (length ws) (length tree))
  pub plan : tree' ≡ greedy_tree (greedy_in N (length ws) (length tree)) tree
  pub workspace : ws' ≡ workspace_after plain_words (greedy_in N (length ws) (length tree)) ws

module _ (N : Network) (tree ws : List ℕ) where
  abbrev call : Result (List Pair) Refusal
  call = greedy_in N (length ws) (length tree)

  quiet : call ≡ Err ShortBuffer → Answers N tree tree ws ws (Err ShortBuffer)
  quiet e =
      record {
        answer = sym (ap done_of e);
        plan = quiet_list call ShortBuffer flat_of tree e;
        workspace = quiet_words plain_words call ShortBuffer ws e refl;
      }

  -- a list is too short
  pub answer_few_words : length ws < plain_words → Answers N tree tree ws ws (Err ShortBuffer)
  answer_few_words h = quiet (few_words N (length ws) (length tree) h)

  pub answer_few_places : plain_words ≤ length ws → length tree < tree_places N → Answers N tree tree ws ws (Err ShortBuffer)
  answer_few_places h q = quiet (few_places N (length ws) (length tree) h q)

  -- greedy ran, and the stated words are cleared
  pub answer_run : plain_words ≤ length ws → tree_places N ≤ length tree → (ws' : List ℕ) → ws' ≡ cleared ws plain_words
      → (y : List ℕ) (r : Result (Unit {0}) Refusal) → Grown N tree y r → Answers N tree y ws ws' r
  answer_run h q ws' ew y r (is_left z g w) =
      let c : call ≡ Err TableTooWide = greedy_runs N (length ws) (length tree) h q ∙ g in
      record {
        answer = z ∙ sym (ap done_of c);
        plan = w ∙ sym (ap (λ (x : Result (List Pair) Refusal). greedy_tree x tree) c);
        workspace = refused_words plain_words ws ws' ew call TableTooWide refl c;
      }
  answer_run h q ws' ew y r (is_grown z a g w k) =
      let c : call ≡ Ok a = greedy_runs N (length ws) (length tree) h q ∙ g in
      record {
        answer = z ∙ sym (ap done_of c);
        plan = w ∙ sym (ap (λ (x : Result (List Pair) Refusal). greedy_tree x tree) c);
        workspace = done_words plain_words ws ws' ew call a c;
      }

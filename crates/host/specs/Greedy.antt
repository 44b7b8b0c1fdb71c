-- What greedy on a network in memory promises: the number, the tree, the workspace. Assumes nothing.
use Rattle.std.specs.Prelude.{◌≡◌, refl, true, List, ℕ, length, Some, Result, Err, Ok}
use Rattle.std.proofs.Common.{sym, ap, ◌∙◌, arith}
use Rattle.spec.specs.declared.Refusal.TheVariants.{TooLarge}
use Rattle.spec.specs.declared.Refusal.{Refusal}
use Rattle.spec.specs.Refusal.{code_of}
use Rattle.spec.specs.FileClaims.{refusal_in}
use Rattle.spec.specs.Network.{Network, leaf_count, refusal_of}
use Rattle.spec.specs.Tree.{Pair, flat_of, valid}
use Rattle.spec.specs.Calls.{plain_words, greedy_checks, greedy_call, greedy_tree, workspace_after}
use Rattle.spec.specs.Greedy.{greedy}
use Rattle.laws.specs.Results.{checked_done}
use Rattle.laws.specs.GreedyLaws.{greedy_valid}
use Rattle.walk.specs.Entry.{Untouched, answers, same_words, same_list}
use Rattle.greedy.specs.Answers.{done_of, greedy_refused}

-- both lists follow greedy's call, and an answered tree is valid
pub record MemoryGreedy (N : Network) (tree₀ ws₀ tree ws : List ℕ) (r : ℕ) : Type 0 where
  pub number : r ≡ code_of (refusal_in (greedy_call N (length ws₀) (length tree₀)))
  pub plan : tree ≡ greedy_tree (greedy_call N (length ws₀) (length tree₀)) tree₀
  pub workspace : ws ≡ workspace_after plain_words (greedy_call N (length ws₀) (length tree₀)) ws₀
  pub sound : (a : List Pair) → greedy_call N (length ws₀) (length tree₀) ≡ Ok a → valid (leaf_count N) a ≡ true

number_of : (c : Result (List Pair) Refusal) → code_of (refusal_in (done_of c)) ≡ code_of (refusal_in c)
number_of (Err r) = refl
number_of (Ok a) = refl

module _ (N : Network) (tree₀ ws₀ : List ℕ) where
  abbrev call : Result (List Pair) Refusal
  call = greedy_call N (length ws₀) (length tree₀)

  sound_of : (a : List Pair) → call ≡ Ok a → valid (leaf_count N) a ≡ true
  unfolding greedy_call
  sound_of a e = greedy_valid N a (checked_done (greedy_checks N (length ws₀) (length tree₀)) (greedy N) a e).1

  -- a count above its limit
  pub plan_large : refusal_of N ≡ Some TooLarge → MemoryGreedy N tree₀ ws₀ tree₀ ws₀ 3
  plan_large e =
      let u : Untouched 3 call = greedy_refused N (length ws₀) (length tree₀) 3 (sym (ap code_of e)) (λ z. omega arith) in
      record {
        number = answers u (λ c. code_of (refusal_in c)) (λ k. k) (λ r. refl);
        plan = same_list u flat_of tree₀;
        workspace = same_words u plain_words ws₀;
        sound = sound_of;
      }

  -- greedy ran
  pub plan_follows : {M : Network} {tree ws : List ℕ} {x : Result (Unit {0}) Refusal} → M ≡ N
      → x ≡ done_of (greedy_call M (length ws₀) (length tree₀))
      → tree ≡ greedy_tree (greedy_call M (length ws₀) (length tree₀)) tree₀
      → ws ≡ workspace_after plain_words (greedy_call M (length ws₀) (length tree₀)) ws₀
      → MemoryGreedy N tree₀ ws₀ tree ws (code_of (refusal_in x))
  plan_follows m x t w =
      let e : greedy_call _ (length ws₀) (length tree₀) ≡ call = ap (λ L. greedy_call L (length ws₀) (length tree₀)) m in
      record {
        number = ap (λ (y : Result (Unit {0}) Refusal). code_of (refusal_in y)) (x ∙ ap done_of e) ∙ number_of call;
        plan = t ∙ ap (λ c. greedy_tree c tree₀) e;
        workspace = w ∙ ap (λ c. workspace_after plain_words c ws₀) e;
        sound = sound_of;
      }

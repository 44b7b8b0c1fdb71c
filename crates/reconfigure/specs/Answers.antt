-- What improvement's entry answers, number and values of each case, and what it leaves in each lent list. Assumes nothing.
use Rattle.std.specs.Prelude.{List, [], ◌∷◌, ◌≡◌, ℕ, length, Option, Result, Err, Ok}
use Rattle.spec.specs.declared.Refusal.{Refusal}
use Rattle.spec.specs.Refusal.{checked}
use Rattle.spec.specs.Network.{Network}
use Rattle.spec.specs.Tree.{pairs_of}
use Rattle.spec.specs.Improve as spec
use Rattle.spec.specs.Improve.{improve}
use Rattle.spec.specs.Calls.{tree_check, flags_check, beyond_check, dangling_check, flag_at, improve_words, improve_call, workspace_after, improved_tree}
use Rattle.reconf.specs.declared.Visited.{Visited}

-- the counts that are answered
abbrev pub counts_of : spec.Improved → Visited
counts_of d = record { rebuilt = d.rebuilt; tried = d.tried }

-- refused, or the counts
abbrev pub given : Result spec.Improved Refusal → Result Visited Refusal
given (Err r) = Err r
given (Ok d) = Ok (counts_of d)

-- the answer and the tree follow the call c
pub record Follows (c : Result spec.Improved Refusal) (kids₀ kids : List ℕ) (r : Result Visited Refusal) : Type 0 where
  pub answer : r ≡ given c
  pub tree : kids ≡ improved_tree c kids₀

-- the whole promise
pub record Improving (N : Network) (k passes : ℕ) (limit : Option ℕ) (flags kids₀ ws₀ kids ws : List ℕ) (r : Result Visited Refusal) : Type 0 where
  pub follows : Follows (improve_call N k passes limit (length ws₀) flags kids₀) kids₀ kids r
  pub workspace : ws ≡ workspace_after (improve_words k) (improve_call N k passes limit (length ws₀) flags kids₀) ws₀

-- ---- the call where checks have passed ----

module _ (N : Network) (k passes : ℕ) (limit : Option ℕ) (flags kids : List ℕ) where
  -- the network is accepted, the count of passes too, and the workspace is long enough
  unfoldable pub rest_call : Result spec.Improved Refusal
  rest_call =
      checked (tree_check N kids ∷ flags_check N flags ∷ beyond_check N (flag_at flags) (pairs_of kids) ∷ dangling_check N ∷ [])
      (Ok (improve N k passes limit (flag_at flags) (pairs_of kids)))

  -- the tree is valid too, and the flags are right
  unfoldable pub last_call : Result spec.Improved Refusal
  last_call =
      checked (beyond_check N (flag_at flags) (pairs_of kids) ∷ dangling_check N ∷ []) (Ok (improve N k passes limit (flag_at flags) (pairs_of kids)))

-- What is claimed of trees: validity without a walk, and sameness. Definitions only; proofs in Walks, Sameness and SamePrices of laws.
-- Assumes nothing.
use Rattle.std.specs.Prelude.{Bool, true, List, [], ◌≡◌, ℕ, zero, suc}
use Rattle.spec.specs.Network.{Network, leaf_count}
use Rattle.spec.specs.Price.{price_of}
use Rattle.spec.specs.Tree.{Tree, Pair, valid, ValidTree, SamePlan, same_plan, Renumbers}

-- validity as a statement: no walk, no bound on its depth
abbrev pub IsValid : ℕ → List Pair → Type 0
IsValid zero a = a ≡ []
IsValid (suc m) a = (t : Tree) × ValidTree (suc m) a t

-- the test tells it
abbrev pub ValidMeans : Type 0
ValidMeans = (n : ℕ) (a : List Pair) → (valid n a ≡ true → IsValid n a) × (IsValid n a → valid n a ≡ true)

-- Sameness is an equivalence, the test tells it, and the inner nodes' numbers are of no account.
pub record SamenessLaws : Type 0 where
  pub reflexive : (n : ℕ) (a : List Pair) → SamePlan n a a
  pub symmetric : (n : ℕ) (a b : List Pair) → SamePlan n a b → SamePlan n b a
  pub transitive : (n : ℕ) (a b c : List Pair) → SamePlan n a b → SamePlan n b c → SamePlan n a c
  pub tested : (n : ℕ) (a b : List Pair) → (same_plan n a b ≡ true → SamePlan n a b) × (SamePlan n a b → same_plan n a b ≡ true)
  pub numbering : (n : ℕ) (a b : List Pair) (π : ℕ → ℕ) → valid n a ≡ true → valid n b ≡ true → Renumbers n a b π → SamePlan n a b

-- valid trees of the same plan have the same prices: total, widest, slice bits
abbrev pub SamePrices : Type 0
SamePrices = (N : Network) (flag : ℕ → Bool) (a b : List Pair) → valid (leaf_count N) a ≡ true → valid (leaf_count N) b ≡ true
    → SamePlan (leaf_count N) a b → price_of N flag a ≡ price_of N flag b

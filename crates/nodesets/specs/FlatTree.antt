-- A tree of n leaves, given as the list of its inner nodes' children, by the names that the proofs use. Assumes nothing.
use Rattle.std.specs.Prelude.{List, ℕ}
use Rattle.spec.specs.Tree.{Pair, pairs_of}
use Rattle.laws.specs.FlatLaws.{left_of, right_of}
use Rattle.nodesets.specs.Passes.{nodes}

-- how many leaves and nodes there are, the inner nodes as pairs, and each one's left and right child
abbrev pub flat_tree : (n : ℕ) (kids : List ℕ) → record { n : ℕ; m : ℕ; a : List Pair; L : ℕ → ℕ; R : ℕ → ℕ }
flat_tree n kids = record { n = n; m = nodes n kids; a = pairs_of kids; L = left_of kids n; R = right_of kids n }

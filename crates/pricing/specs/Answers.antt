-- The widest of the nodes. Assumes nothing.
use Rattle.std.specs.Prelude.{cond, List, ℕ, eqb, length, Option, None, Some}
use Rattle.spec.specs.Price.{largest}

-- the largest of the nodes' sizes, none without nodes
abbrev pub widest_in : List ℕ → Option ℕ
widest_in l = cond (eqb (length l) 0) None (Some (largest l))

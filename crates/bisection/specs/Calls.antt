-- What the calls of `bisect_rec` ask, from what it is given. Assumes nothing.
use Rattle.std.specs.Prelude.{List, ◌++◌, ◌≡◌, ℕ, ◌-◌, ◌≤◌, length, take, drop}
use Rattle.std.proofs.Common.{ap, ◌∙◌, length-drop}
use Rattle.spec.specs.Network.{Network}
use Rattle.spec.specs.Tree.{Pair}
use Rattle.bisect.specs.Whole.{Names}
use Rattle.greedynodes.specs.Begin.{Asks}
use Rattle.bisect.specs.Recursion.{rest_part}

-- how long the part behind the left half is, once that is back
pub rest_length : (l y : List ℕ) (m k : ℕ) → m ≤ length l → length y ≡ length (take m l) → k ≡ length (y ++ drop m l) - m
    → length (take k (drop m (y ++ drop m l))) ≡ length l - m
rest_length l y m k h e q = ap length (rest_part l y m k h e q) ∙ length-drop m l

pub names_of : {N : Network} {a : List Pair} {n made : ℕ} {weights counts legs outputs leaves kids : List ℕ}
    → Asks N a n made weights counts legs outputs leaves kids → Names N weights counts legs leaves
names_of {N} {a} {n} {made} {weights} {counts} {legs} {outputs} s =
    record { n = n; outputs = outputs; lends = s.lends; accepted = s.accepted; leaf = s.leaf }

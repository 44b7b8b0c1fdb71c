-- Weighted hypergraphs and their partitions into two sides: what bisection halves. Definitions only. Assumes nothing.
use Rattle.std.specs.Prelude.{Bool, ◌&&◌, cond, List, [], ◌∷◌, ◌++◌, ℕ, zero, suc, ◌-◌, eqb, leb, length, get_or, set, Float}
use Rattle.std.specs.Float.{binary64}
use Rattle.std.specs.Float.Ieee.{add, sub}
use Rattle.spec.specs.Lists.{memb, keep, anyb, range}
use Rattle.spec.specs.Floats.{zero_float, whole_float}
use Rattle.spec.specs.Network.{Network, weight, legs, index_count}

-- at most k turns, while `stop` is false
abbrev pub until : {S : Type 0} → ℕ → (S → Bool) → (S → S) → S → S
until zero stop f s = s
until (suc k) stop f s =
    let on = until k stop f (f s) in
    cond (stop s) s on

-- f of each member, in their order
abbrev pub fold_over : {A S : Type 0} → (A → S → S) → List A → S → S
fold_over f [] s = s
fold_over f (x ∷ l) s = fold_over f l (f x s)

-- ---- hypergraphs ----

-- a net: its vertices, rising, and its weight
pub record Net : Type 0 where
  pub pins : List ℕ
  pub weight : Float

-- the weight of each vertex, and the nets
pub record Hypergraph : Type 0 where
  pub weights : List Float
  pub nets : List Net

abbrev pub vertex_count : Hypergraph → ℕ
vertex_count G = length G.weights

abbrev pub vertex_weight : Hypergraph → ℕ → Float
vertex_weight G v = get_or G.weights v zero_float

abbrev pub total_weight : Hypergraph → Float
total_weight G = fold_over (λ w sum. add binary64 sum w) G.weights zero_float

-- the nets that have v as a pin
abbrev pub nets_at : Hypergraph → ℕ → List Net
nets_at G v = keep (λ e. memb v e.pins) G.nets

abbrev pub all_pins : List Net → List ℕ
all_pins [] = []
all_pins (e ∷ l) = e.pins ++ all_pins l

-- the nets of two pins or more
abbrev pub nets≥2 : List Net → List Net
nets≥2 l = keep (λ e. leb 2 (length e.pins)) l

-- The hypergraph of some leaves of a network: a vertex of weight 1 for each, in their order, and the indices that two or more of them
-- name as nets, by rising index.
abbrev pub net_of : Network → List ℕ → ℕ → Net
net_of N leaves j =
    record { pins = keep (λ v. memb j (legs N (get_or leaves v 0))) (range (length leaves)); weight = whole_float (weight N j) }

abbrev pub nets_over : Network → List ℕ → List ℕ → List Net
nets_over N leaves [] = []
nets_over N leaves (j ∷ js) = net_of N leaves j ∷ nets_over N leaves js

abbrev pub ones : List ℕ → List Float
ones [] = []
ones (l ∷ ls) = whole_float 1 ∷ ones ls

unfoldable pub hypergraph_of : Network → List ℕ → Hypergraph
hypergraph_of N leaves = record { weights = ones leaves; nets = nets≥2 (nets_over N leaves (range (index_count N))) }

-- ---- partitions ----

-- A partition gives each vertex a side, 0 or 1.
abbrev pub side_of : List ℕ → ℕ → ℕ
side_of part v = get_or part v 0

abbrev pub other_side : ℕ → ℕ
other_side s = 1 - s

-- the number of pins on side s
abbrev pub pins_on : List ℕ → ℕ → List ℕ → ℕ
pins_on part s pins = length (keep (λ v. eqb (side_of part v) s) pins)

-- a net is cut if it has pins on both sides
abbrev pub is_cut : List ℕ → List ℕ → Bool
is_cut part pins = anyb (λ v. eqb (side_of part v) 0) pins && anyb (λ v. eqb (side_of part v) 1) pins

-- the weight of the nets that are cut
unfoldable pub cut : Hypergraph → List ℕ → Float
cut G part = fold_over (λ e sum. cond (is_cut part e.pins) (add binary64 sum e.weight) sum) G.nets zero_float

-- a partition with the weight of each side
pub record Sides : Type 0 where
  pub part : List ℕ
  pub weights : List Float

abbrev pub weight_on : Hypergraph → List ℕ → ℕ → Float
weight_on G part s =
    fold_over (λ v sum. cond (eqb (side_of part v) s) (add binary64 sum (vertex_weight G v)) sum) (range (vertex_count G)) zero_float

abbrev pub sides_of : Hypergraph → List ℕ → Sides
sides_of G part = record { part = part; weights = weight_on G part 0 ∷ weight_on G part 1 ∷ [] }

abbrev pub side_weight : Sides → ℕ → Float
side_weight S s = get_or S.weights s zero_float

-- v moves from side s to the other
abbrev pub moved_from : Hypergraph → ℕ → ℕ → Sides → Sides
moved_from G v s S =
    record {
      part = set S.part v (other_side s);
      weights = set (set S.weights s (sub binary64 (side_weight S s) (vertex_weight G v))) (other_side s)
          (add binary64 (side_weight S (other_side s)) (vertex_weight G v));
    }

abbrev pub moved : Hypergraph → ℕ → Sides → Sides
moved G v S = moved_from G v (side_of S.part v) S

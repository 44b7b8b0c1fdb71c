-- A coarser hypergraph: vertices matched in pairs along heavy nets (`coarsen`). Definitions only. Assumes nothing.
use Rattle.std.specs.Prelude.{Bool, not, ◌&&◌, cond, List, [], ◌∷◌, ◌++◌, map, ℕ, zero, suc, ◌-◌, max, min, eqb, leb, length, get_or, set, replicate, Float, Option, None, Some}
use Rattle.std.specs.Float.{binary64}
use Rattle.std.specs.Float.Ieee.{add, mul, div, lt, le, eq}
use Rattle.spec.specs.Lists.{memb, keep, range}
use Rattle.spec.specs.Floats.{zero_float, micro, whole_float, decimal}
use Rattle.spec.specs.Draws.{Words, Drawn, drawn, unit_draw, index_draw}
use Rattle.spec.specs.Hypergraph.{fold_over, Net, Hypergraph, vertex_count, vertex_weight, nets_at, nets≥2}

-- ---- the order of the vertices: for i from the last down to 1, places i and j are swapped, j drawn from 0 to i ----

abbrev pub swapped : ℕ → ℕ → List ℕ → List ℕ
swapped i j l = set (set l i (get_or l j 0)) j (get_or l i 0)

abbrev pub shuffled : ℕ → Drawn (List ℕ) → Drawn (List ℕ)
shuffled zero d = d
shuffled (suc i) d =
    let w = index_draw (suc (suc i)) d.words in
    shuffled i (drawn (swapped (suc i) w.value d.value) w.words)

-- ---- matching ----

-- the rating of each vertex, and the vertices in the order in which they were first rated
pub record Ratings : Type 0 where
  pub rating : List Float
  pub touched : List ℕ

-- the best mate so far, if there is one, with its rating; the ratings not yet looked at; the words
pub record Choice : Type 0 where
  pub best : Float
  pub mate : Option ℕ
  pub rating : List Float
  pub words : Words

-- the coarser hypergraph, and which of its vertices each vertex is part of
pub record Level : Type 0 where
  pub graph : Hypergraph
  pub places : List ℕ

module _ (G : Hypergraph) (maxw : Float) where
  -- A matching gives each vertex its mate, itself if it stays alone, and the vertex count while it has none yet.
  abbrev pub unmatched : List ℕ → ℕ → Bool
  unmatched mates u = eqb (get_or mates u 0) (vertex_count G)

  -- A pin u of a net rated r. A vertex whose rating is 0 is listed, so one that is rated 0 is listed again.
  abbrev pub rated : Float → ℕ → Ratings → Ratings
  rated r u t =
      record {
        rating = set t.rating u (add binary64 (get_or t.rating u zero_float) r);
        touched = cond (eq (get_or t.rating u zero_float) zero_float) (t.touched ++ (u ∷ [])) t.touched;
      }

  -- the pins of a net that may be v's mate
  abbrev pub open_pins : List ℕ → ℕ → Net → List ℕ
  open_pins mates v e = keep (λ u. not (eqb u v) && unmatched mates u) e.pins

  -- a net's weight over the number of its other pins; nets of over 64 pins are passed over
  abbrev pub rated_by : List ℕ → ℕ → Net → Ratings → Ratings
  rated_by mates v e t =
      let r = div binary64 e.weight (whole_float (max (length e.pins - 1) 1)) in
      let rest = fold_over (rated r) (open_pins mates v e) t in
      cond (leb (length e.pins) 64) rest t

  abbrev pub ratings : List ℕ → ℕ → Ratings
  ratings mates v = fold_over (rated_by mates v) (nets_at G v) (record { rating = replicate (vertex_count G) zero_float; touched = [] })

  -- u is looked at: its rating with a little noise, which takes a draw, must be above the best, and both together not too heavy
  abbrev pub looked_at : ℕ → ℕ → Choice → Choice
  looked_at v u c =
      let d = unit_draw c.words in
      let r = mul binary64 (get_or c.rating u zero_float) (add binary64 (whole_float 1) (mul binary64 micro d.value)) in
      let better = lt c.best r && le (add binary64 (vertex_weight G v) (vertex_weight G u)) maxw in
      record {
        best = cond better r c.best;
        mate = cond better (Some u) c.mate;
        rating = set c.rating u zero_float;
        words = d.words;
      }

  abbrev pub choice_of : ℕ → Ratings → Words → Choice
  choice_of v t ws = fold_over (looked_at v) t.touched (record { best = zero_float; mate = None; rating = t.rating; words = ws })

  abbrev pub mated : ℕ → Option ℕ → List ℕ → List ℕ
  mated v None mates = set mates v v
  mated v (Some u) mates = set (set mates v u) u v

  -- v is matched, unless it has a mate already
  abbrev pub matched : ℕ → Drawn (List ℕ) → Drawn (List ℕ)
  matched v d =
      let c = choice_of v (ratings d.value v) d.words in
      let new = drawn (mated v c.mate d.value) c.words in
      cond (unmatched d.value v) new d

  -- the mates of all vertices, taken in a drawn order
  abbrev pub matching : Words → Drawn (List ℕ)
  matching ws =
      let order = shuffled (vertex_count G - 1) (drawn (range (vertex_count G)) ws) in
      fold_over matched order.value (drawn (replicate (vertex_count G) (vertex_count G)) order.words)

  -- ---- the coarser hypergraph: a vertex for each pair and each vertex alone, by rising lower member ----

  abbrev pub mate_of : List ℕ → ℕ → ℕ
  mate_of mates v = get_or mates v 0

  abbrev pub is_lower : List ℕ → ℕ → Bool
  is_lower mates v = leb v (mate_of mates v)

  abbrev pub coarse_of : List ℕ → ℕ → ℕ
  coarse_of mates v = length (keep (is_lower mates) (range (min v (mate_of mates v))))

  abbrev pub coarse_weight : List ℕ → ℕ → Float
  coarse_weight mates v =
      cond (eqb (mate_of mates v) v) (vertex_weight G v) (add binary64 (vertex_weight G v) (vertex_weight G (mate_of mates v)))

  abbrev pub coarse_net : (ℕ → ℕ) → ℕ → Net → Net
  coarse_net c m e = record { pins = keep (λ x. memb x (map c e.pins)) (range m); weight = e.weight }

  abbrev pub coarser : List ℕ → Hypergraph
  coarser mates =
      let lower = keep (is_lower mates) (range (vertex_count G)) in
      record {
        weights = map (coarse_weight mates) lower;
        nets = nets≥2 (map (coarse_net (coarse_of mates) (length lower)) G.nets);
      }

  abbrev pub level_of : List ℕ → Level
  level_of mates = record { graph = coarser mates; places = map (coarse_of mates) (range (vertex_count G)) }

  -- none if over 95 of 100 vertices are left
  abbrev pub worthwhile : Level → Option Level
  worthwhile l =
      cond (lt (mul binary64 (decimal 95 100) (whole_float (vertex_count G))) (whole_float (vertex_count l.graph))) None (Some l)

  unfoldable pub coarsen : Words → Drawn (Option Level)
  coarsen ws =
      let m = matching ws in
      drawn (worthwhile (level_of m.value)) m.words

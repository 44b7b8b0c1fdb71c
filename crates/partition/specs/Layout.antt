-- A hypergraph in slots of words. The pins of net e are the members of slot nets + e, of two words; the nets of vertex v are the members of
-- slot vertices + v, of four words; the sides of a partition are the sets of slots sides and sides + 1, of two words. Assumes nothing.
use Rattle.std.specs.Prelude.{Bool, true, not, ◌&&◌, cond, ◌≡◌, List, map, ℕ, ◌+◌, ◌≤◌, ◌<◌, ltb, Float, length, get_or}
use Rattle.std.proofs.Common.{◌∙◌}
use Rattle.std.specs.Float.{binary64}
use Rattle.std.specs.Float.Ieee.{add, sub}
use Rattle.spec.specs.Lists.{range}
use Rattle.spec.specs.Floats.{zero_float, whole_float}
use Rattle.spec.specs.Hypergraph.{fold_over, Net, Hypergraph}
use Rattle.spec.specs.Fm.{gain_net}
use Rattle.slots.specs.Slots.{held}
use Rattle.slots.specs.Rising.{rising_of}
use Rattle.partition.specs.Common.{common_of}
use Rattle.partition.specs.Few.{Few}
use Rattle.partition.specs.declared.place.Place.{Place}
use Rattle.partition.specs.declared.layout.Layout.{Layout}

module _ (ws : List ℕ) (nets : ℕ) (weights : List ℕ) where
  abbrev pub net_in : ℕ → Net
  net_in e = record { pins = rising_of ws 2 (nets + e); weight = whole_float (get_or weights e 0) }

  -- the hypergraph of m nets, with the vertices' weights
  unfoldable pub graph_in : ℕ → List Float → Hypergraph
  graph_in m vw = record { weights = vw; nets = map net_in (range m) }

-- the side of each of n vertices
unfoldable pub sides_in : List ℕ → ℕ → ℕ → List ℕ
sides_in ws sides n = map (λ v. cond (held ws 2 (sides + 1) v) 1 0) (range n)

-- each of n vertices has those of m nets that have it as a pin
abbrev pub Crossed : List ℕ → ℕ → ℕ → ℕ → ℕ → Type 0
Crossed ws nets vertices m n = (v e : ℕ) → v < n → e < 256 → held ws 4 (vertices + v) e ≡ (ltb e m && held ws 2 (nets + e) v)

-- the pins of m nets are vertices below n
abbrev pub Within : List ℕ → ℕ → ℕ → ℕ → Type 0
Within ws nets m n = (e v : ℕ) → e < m → v < 128 → held ws 2 (nets + e) v ≡ true → v < n

pub record Laid (ws : List ℕ) (nets vertices sides m n : ℕ) : Type 0 where
  pub few : (m ≤ 256) × (n ≤ 128)
  pub crossed : Crossed ws nets vertices m n
  pub within : Within ws nets m n
  pub apart : (v : ℕ) → v < n → held ws 2 sides v ≡ not (held ws 2 (sides + 1) v)

abbrev pub place : ℕ → ℕ → ℕ → ℕ → ℕ → Place
place nets vertices sides m n = record { nets = nets; vertices = vertices; sides = sides; net_count = m; vertex_count = n }

abbrev pub place_of : Layout → Place
place_of l = place l.nets l.vertices l.sides l.net_count (length l.vertex_weights.now)

-- a hypergraph and a partition lie there
pub record Placed (ws : List ℕ) (o : Place) : Type 0 where
  pub low : (o.nets < 32768) × (o.vertices < 32768) × (o.sides < 32768)
  pub laid : Laid ws o.nets o.vertices o.sides o.net_count o.vertex_count

-- ---- gains, by members in common ----

-- a vertex that is alone on its side, and a side that has no pin
abbrev gain_by : Bool → Bool → Float → Float → Float
gain_by alone none w g =
    let freed = cond alone (add binary64 g w) g in
    cond none (sub binary64 freed w) freed

module _ (ws : List ℕ) (nets here there : ℕ) (weights : List ℕ) where
  abbrev pub gain_step : ℕ → Float → Float
  gain_step e g = gain_net (length (common_of ws 2 (nets + e) here)) (length (common_of ws 2 (nets + e) there)) (whole_float (get_or weights e 0)) g

  abbrev pub gain_sum : List ℕ → Float
  gain_sum l = fold_over gain_step l zero_float

  pub step_is : (e x y w : ℕ) (g r : Float) → Few x (length (common_of ws 2 (nets + e) here)) → Few y (length (common_of ws 2 (nets + e) there))
      → w ≡ get_or weights e 0 → r ≡ gain_net x y (whole_float w) g → r ≡ gain_step e g
  step_is e x y w g r p q s t = t ∙ (λ i. gain_by (p.0 i) (q.1 i) (whole_float (s i)) g)

-- What an attempt to make a coarser hypergraph gives: its size, if it is worthwhile. Assumes nothing.
use Rattle.std.specs.Prelude.{Bool, true, false, ◌≡◌, List, ℕ, ◌+◌, ◌*◌, ◌≤◌, ◌<◌, Float, length, Result, Ok, Err}
use Rattle.spec.specs.Draws.{Words, drawn}
use Rattle.spec.specs.Coarsen.{coarsen}
use Rattle.partition.specs.Layout.{graph_in}
use Rattle.partition.specs.declared.layout.Layout.{Layout}
use Rattle.matching.specs.Meshed.{Meshed}
use Rattle.mesh.specs.Compact.{Within}
use Rattle.coarsen.specs.Level.{Coarser, level_in, level_if}
use Rattle.coarsen.specs.declared.Size.{Size}
use Rattle.coarsen.specs.declared.Slots.{Slots}

-- A hypergraph with a vertex or more lies there; the lists and the slots have room for the coarser one.
pub record HasRoom (ws : List ℕ) (o : Layout) (slots : Slots) (weights : List ℕ) (vw : List Float) (places mates : List ℕ) : Type 0 where
  pub low : (o.nets < 32768) × (o.vertices < 32768) × (slots.nets < 32768) × (slots.vertices < 32768)
  pub some_left : 0 < length o.vertex_weights.now
  pub meshed : Meshed ws o.nets o.vertices o.net_count (length o.vertex_weights.now)
  pub within : Within ws o.nets o.net_count (length o.vertex_weights.now)
  pub matched : length mates ≡ length o.vertex_weights.now
  pub fits : (length o.vertex_weights.now ≤ length places) × (length o.vertex_weights.now ≤ length vw) × (o.net_count ≤ length weights)
  pub behind : (o.nets + 256 ≤ slots.nets) × (slots.nets + 256 ≤ slots.vertices * 2) × ((slots.vertices + 128) * 4 ≤ length ws)

-- what holds of the size, whether or not it is worthwhile
abbrev pub BySize : (Bool → ℕ → ℕ → Type 0) → Result Size Size → Type 0
BySize P (Ok s) = P true s.nets s.vertices
BySize P (Err s) = P false s.nets s.vertices

-- the hypergraph of m' nets and n' vertices in ws' is the coarser one, by the mates
pub record Made (ws : List ℕ) (nets : ℕ) (weights : List ℕ) (m : ℕ) (vw : List Float) (limit : Float) (words words' : Words) (mates : List ℕ) (nets₂ vertices₂ : ℕ)
    (ws' weights' : List ℕ) (vw' : List Float) (places' : List ℕ) (found : Bool) (m' n' : ℕ) : Type 0 where
  pub same : drawn (level_if found (level_in ws' nets₂ weights' m' vw' n' places' (length vw))) words' ≡ coarsen (graph_in ws nets weights m vw) limit words
  pub level : Coarser ws nets weights m vw mates nets₂ vertices₂ ws' weights' m' vw' n' places'

-- the same of a layout, at these slots
abbrev pub MadeOf : List ℕ → List ℕ → Layout → Slots → Float → Words → Words → List ℕ → List Float → List ℕ → List ℕ → Bool → ℕ → ℕ → Type 0
MadeOf ws ws' o slots limit words words' weights' vw' places' mates found m n =
    Made ws o.nets o.net_weights.now o.net_count o.vertex_weights.now limit words words' mates slots.nets slots.vertices ws' weights' vw' places' found m n

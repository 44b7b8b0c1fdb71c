-- The hypergraph of a level, as a layout names it: what is done on the layout is done on the level. Assumes nothing.
use Rattle.std.specs.Prelude.{Bool, true, false, Result, Ok, Err, ◌≡◌, refl, List, ◌++◌, ℕ, ◌+◌, ◌*◌, Float, length}
use Rattle.std.proofs.Common.{sym, ap, ◌∙◌, subst, arith}
use Rattle.spec.specs.Draws.{Words, Drawn}
use Rattle.spec.specs.Hypergraph.{Hypergraph}
use Rattle.spec.specs.Fm.{fm}
use Rattle.spec.specs.Bisection.{initial}
use Rattle.partition.specs.declared.layout.Layout.{Layout}
use Rattle.partition.specs.declared.place.Place.{Place}
use Rattle.partition.specs.Layout.{graph_in, place, place_of}
use Rattle.moves.specs.Kept.{Kept, Site}
use Rattle.refine.specs.Passes.{Halves}
use Rattle.initial.specs.Least.{Initial}
use Rattle.matching.specs.Meshed.{Meshed}
use Rattle.mesh.specs.Compact.{Within}
use Rattle.coarsen.specs.Sizes.{Made, BySize}
use Rattle.coarsen.specs.declared.Size.{Size}
use Rattle.levels.specs.Spans.{span_length}
use Rattle.levels.specs.Stage.{Stage, nets_at, vertices_at, graph_at, stage_site, Gives, gives}

-- a layout of the nets and the vertices of level l, the slots for sides behind all levels
pub record IsLevel (weights : List ℕ) (vw : List Float) (l m n : ℕ) (y : Layout) : Type 0 where
  pub nets : y.nets ≡ l * 512
  pub vertices : y.vertices ≡ l * 256 + 128
  pub sides : y.sides ≡ 14336
  pub net_count : y.net_count ≡ m
  pub net_weights : y.net_weights.now ≡ nets_at weights l
  pub vertex_weights : y.vertex_weights.now ≡ vertices_at vw l n

-- what holds of a size that is found or not
pub sized_as : {P Q : Bool → ℕ → ℕ → Type 0} → ((found : Bool) (m n : ℕ) → P found m n → Q found m n) → (r : Result Size Size) → BySize P r → BySize Q r
sized_as f (Ok s) p = f true s.nets s.vertices p
sized_as f (Err s) p = f false s.nets s.vertices p

-- what a hypergraph is read from
record Read : Type 0 where
  nets : ℕ
  net_weights : List ℕ
  net_count : ℕ
  vertex_weights : List Float

-- where the lists that are read hold what those of all levels do; the map to the next level is not read
pub stage_read : {ws weights weights' : List ℕ} {vw vw' : List Float} {c l m n : ℕ} → (weights' ≡ weights) × (vw' ≡ vw)
    → Stage ws (length weights) (length vw) c l m n → Stage ws (length weights') (length vw') 3584 l m n
stage_read e h =
    record {
      some_left = h.some_left;
      low = h.low;
      room = h.room;
      mesh = h.mesh;
      within = h.within;
      words = h.words;
      nets_fit = omega (arith, h.nets_fit, ap length e.0);
      vertices_fit = omega (arith, h.vertices_fit, ap length e.1);
      places_fit = omega arith;
    }

-- and what is given of their hypergraph
pub gives_read : (l m n : ℕ) (f : Hypergraph → Drawn (List ℕ)) {ws weights weights' : List ℕ} {vw vw' : List Float} {ws' part' : List ℕ} {w' : Words}
    → (weights' ≡ weights) × (vw' ≡ vw) → Gives n (f (graph_at ws weights' vw' l m n)) ws ws' part' w' → Gives n (f (graph_at ws weights vw l m n)) ws ws' part' w'
gives_read l m n f {ws} {ws' = ws'} {part'} {w'} e g =
    subst (λ (G : Hypergraph). Gives n (f G) ws ws' part' w') (λ i. graph_at ws (e.0 i) (e.1 i) l m n) g

module _ {ws weights : List ℕ} {vw : List Float} {c l m n : ℕ} {y : Layout} (h : Stage ws (length weights) (length vw) c l m n) (k : IsLevel weights vw l m n y) where
  pub level_length : length y.vertex_weights.now ≡ n
  level_length = ap length k.vertex_weights ∙ span_length (l * 128) n vw (omega (arith, h.low, h.room, h.vertices_fit))

  level_place : place_of y ≡ place (l * 512) (l * 256 + 128) 14336 m n
  level_place = λ i. place (k.nets i) (k.vertices i) (k.sides i) (k.net_count i) (level_length i)

  pub level_site : Site ws (place_of y)
  level_site = subst (λ (o : Place). Site ws o) (sym level_place) (stage_site ws (length weights) (length vw) c l m n n h refl)

  pub level_meshed : Meshed ws y.nets y.vertices y.net_count (length y.vertex_weights.now)
  level_meshed = subst (λ (o : Place). Meshed ws o.nets o.vertices o.net_count o.vertex_count) (sym level_place) h.mesh

  pub level_within : Within ws y.nets y.net_count (length y.vertex_weights.now)
  level_within = subst (λ (o : Place). Within ws o.nets o.net_count o.vertex_count) (sym level_place) h.within

  pub level_graph : graph_in ws y.nets y.net_weights.now y.net_count y.vertex_weights.now ≡ graph_at ws weights vw l m n
  level_graph = λ i. graph_in ws (k.nets i) (k.net_weights i) (k.net_count i) (k.vertex_weights i)

  kept_all : {ws' : List ℕ} → Kept (y.sides * 2) ws ws' → Kept 28672 ws ws'
  kept_all {ws'} q = let e : y.sides * 2 ≡ 28672 = omega (arith, k.sides) in subst (λ (x : ℕ). Kept x ws ws') e q

  -- refined
  pub gives_refined : {maxw : Float} {ws' part part' : List ℕ} {w w' : Words} (rest : List ℕ) → Halves y.net_weights.now y.vertex_weights.now (place_of y) maxw 4 ws ws' part part' w w'
      → Gives n (fm (graph_at ws weights vw l m n) maxw 4 part w) ws ws' (part' ++ rest) w'
  gives_refined {maxw} {ws'} {part} {part'} {w} {w'} rest q =
      gives n _ ws ws' part' rest w' (q.split.long ∙ level_length) (q.refined ∙ ap (λ (G : Hypergraph). fm G maxw 4 part w) level_graph) q.split.bits (kept_all q.kept)

  -- the first partition
  pub gives_first : {maxw : Float} {ws' part' : List ℕ} {w w' : Words} (rest : List ℕ) → length part' ≡ n
      → Initial y.net_weights.now y.vertex_weights.now y.nets y.vertices y.sides y.net_count maxw ws w ws' part' w'
      → Gives n (initial (graph_at ws weights vw l m n) maxw w) ws ws' (part' ++ rest) w'
  gives_first {maxw} {ws'} {part'} {w} {w'} rest e q =
      gives n _ ws ws' part' rest w' e (q.chosen ∙ ap (λ (G : Hypergraph). initial G maxw w) level_graph) q.bits (kept_all q.kept)

  -- the coarser one
  pub made_level : {limit : Float} {w w' : Words} {mates : List ℕ} {nets₂ vertices₂ : ℕ} {ws' weights' : List ℕ} {vw' : List Float} {places' : List ℕ} {found : Bool} {m' n' : ℕ}
      → Made ws y.nets y.net_weights.now y.net_count y.vertex_weights.now limit w w' mates nets₂ vertices₂ ws' weights' vw' places' found m' n'
      → Made ws (l * 512) (nets_at weights l) m (vertices_at vw l n) limit w w' mates nets₂ vertices₂ ws' weights' vw' places' found m' n'
  made_level {limit} {w} {w'} {mates} {nets₂} {vertices₂} {ws'} {weights'} {vw'} {places'} {found} {m'} {n'} q =
      subst (λ (x : Read). Made ws x.nets x.net_weights x.net_count x.vertex_weights limit w w' mates nets₂ vertices₂ ws' weights' vw' places' found m' n')
      (λ i. record { nets = k.nets i; net_weights = k.net_weights i; net_count = k.net_count i; vertex_weights = k.vertex_weights i }) q

-- What is claimed of the hypergraphs and partitions that bisection comes to: they have what laws B3 and B7 (FmClaims) ask for. Definitions only;
-- proofs in GraphLaws, SideLaws and PassLaws of laws. Assumes nothing.
use Rattle.std.specs.Prelude.{true, false, List, map, ◌≡◌, ℕ, ◌*◌, ◌<◌, ◌≤◌, Float, length, Option, Some}
use Rattle.std.proofs.Math.IntN.{sub_ℕ}
use Rattle.std.specs.Float.{binary64}
use Rattle.std.specs.Float.Ieee.{of_int}
use Rattle.spec.specs.Lists.{sum_of}
use Rattle.spec.specs.Members.{All}
use Rattle.spec.specs.Network.{Network, max_indices, max_weight, repeats, accepted}
use Rattle.spec.specs.Draws.{Words}
use Rattle.spec.specs.Hypergraph.{until, Hypergraph, vertex_count, hypergraph_of, side_of, sides_of}
use Rattle.spec.specs.Fm.{gain, Entry, waits, entry_of, largest, Pass, pass_turn, start_pass, end_pass, passes, fm}
use Rattle.spec.specs.Coarsen.{Level, level_of, coarsen}
use Rattle.spec.specs.Bisection.{grown, initial, multilevel, bisect}
use Rattle.spec.specs.FmClaims.{WholeNet, as_net, made_uncut, newly_cut, Gives, HeapOf, Numbered, start_heap, heap_after}

-- ---- hypergraphs ----

-- a net has two pins or more, none twice, each one of n vertices
pub record Pinned (n : ℕ) (e : WholeNet) : Type 0 where
  pub two : 2 ≤ length e.pins
  pub once : repeats e.pins ≡ false
  pub below : All (λ u. u < n) e.pins

-- the nets are such, and their weights are whole bits, no more in all than a network may have
pub record Lawful (G : Hypergraph) : Type 0 where
  pub whole : List WholeNet
  pub same : G.nets ≡ map as_net whole
  pub pinned : All (Pinned (vertex_count G)) whole
  pub few : sum_of (λ e. e.bits) whole ≤ max_indices * max_weight

-- LAW B10. The hypergraph of any leaves of an accepted network is lawful,
abbrev pub LeavesLawful : Type 0
LeavesLawful = (N : Network) → accepted N ≡ true → (leaves : List ℕ) → Lawful (hypergraph_of N leaves)

-- and so is one made coarser by any matching,
abbrev pub LevelLawful : Type 0
LevelLawful = (G : Hypergraph) (maxw : Float) (mates : List ℕ) → Lawful G → Lawful (level_of G maxw mates).graph

abbrev pub CoarserLawful : Type 0
CoarserLawful = (G : Hypergraph) (maxw : Float) (ws : Words) (l : Level) → Lawful G → (coarsen G maxw ws).value ≡ Some l → Lawful l.graph

-- and so every one that bisection comes to: of any leaves of the network, or coarser than one that it comes to.
pub data Reached (N : Network) : Hypergraph → Type 0 where
  leaves : (leaves : List ℕ) → Reached N (hypergraph_of N leaves)
  coarser : (G : Hypergraph) (maxw : Float) (ws : Words) (l : Level) → Reached N G → (coarsen G maxw ws).value ≡ Some l → Reached N l.graph

abbrev pub ReachedLawful : Type 0
ReachedLawful = (N : Network) → accepted N ≡ true → (G : Hypergraph) → Reached N G → Lawful G

-- ---- partitions ----

-- one place for each of n vertices, and in each 0 or 1
pub record Sided (n : ℕ) (part : List ℕ) : Type 0 where
  pub long : length part ≡ n
  pub low : All (λ s. s < 2) part

-- Whatever the hypergraph, so is what growth gives, what refinement makes of such a partition, and what a partition of a coarser hypergraph
-- is to the finer one;
abbrev pub GrownSided : Type 0
GrownSided = (G : Hypergraph) (ws : Words) → Sided (vertex_count G) (grown G ws).part

abbrev pub RefinedSided : Type 0
RefinedSided = (G : Hypergraph) (maxw : Float) (k : ℕ) (part : List ℕ) (ws : Words) → Sided (vertex_count G) part → Sided (vertex_count G) (fm G maxw k part ws).value

abbrev pub PlacedSided : Type 0
PlacedSided = (G : Hypergraph) (maxw : Float) (ws : Words) (l : Level) (part : List ℕ) → (coarsen G maxw ws).value ≡ Some l → Sided (vertex_count l.graph) part
    → Sided (vertex_count G) (map (side_of part) l.places)

-- and so is what is handed on.
abbrev pub InitialSided : Type 0
InitialSided = (G : Hypergraph) (maxw : Float) (ws : Words) → Sided (vertex_count G) (initial G maxw ws).value

abbrev pub MultilevelSided : Type 0
MultilevelSided = (fuel : ℕ) (maxw : Float) (G : Hypergraph) (ws : Words) → Sided (vertex_count G) (multilevel fuel maxw G ws).value

abbrev pub BisectSided : Type 0
BisectSided = (G : Hypergraph) (eps : Float) (ws : Words) → Sided (vertex_count G) (bisect G eps ws).value

-- ---- passes ----

-- LAW B3 at a lawful hypergraph: a gain is the weight of the nets made uncut less that of the nets newly cut, a whole number.
abbrev pub GainWhole : Type 0
GainWhole = (G : Hypergraph) (h : Lawful G) (part : List ℕ) → Sided (vertex_count G) part → (v : ℕ) → v < vertex_count G
    → gain G part v ≡ of_int binary64 (sub_ℕ (made_uncut h.whole part v) (newly_cut h.whole part v))

-- the partitions that refinement starts from: what growth gives, and what is brought from a coarser hypergraph
pub data Starts (G : Hypergraph) : List ℕ → Type 0 where
  growth : (ws : Words) → Starts G (grown G ws).part
  brought : (most : Float) (ws : Words) (l : Level) → (coarsen G most ws).value ≡ Some l → (fuel : ℕ) (maxw : Float) (later : Words)
      → Starts G (map (side_of (multilevel fuel maxw l.graph later).value) l.places)

-- The passes of `fm` from a partition, at their starts and after each turn, with the Rust's heap.
pub data Comes (G : Hypergraph) (maxw : Float) (part : List ℕ) : Pass → List Entry → Type 0 where
  first : (ws : Words) → Comes G maxw part (start_pass G maxw (sides_of G part) ws) (start_heap G part ws).heap
  turn : (p : Pass) (heap : List Entry) (o : Option Entry) (rest : List Entry) → Comes G maxw part p heap → Gives p.gains.moves p.queue heap o rest
      → Comes G maxw part (pass_turn G maxw p) (heap_after G maxw o rest p)
  next : (p : Pass) (heap : List Entry) → Comes G maxw part p heap
      → Comes G maxw part (start_pass G maxw (end_pass G maxw p).sides (end_pass G maxw p).words) (start_heap G (end_pass G maxw p).sides.part (end_pass G maxw p).words).heap

-- These are all: k turns of a pass that `fm` comes to, and k passes from its partition, whatever k is, lead to one of them.
abbrev pub TurnsCome : Type 0
TurnsCome = (G : Hypergraph) → Lawful G → (maxw : Float) (part : List ℕ) → Sided (vertex_count G) part → (p : Pass) (heap : List Entry) → Comes G maxw part p heap
    → (k : ℕ) → (later : List Entry) × Comes G maxw part (until k (λ t. t.over) (pass_turn G maxw) p) later

abbrev pub PassesCome : Type 0
PassesCome = (G : Hypergraph) → Lawful G → (maxw : Float) (part : List ℕ) → Sided (vertex_count G) part → (k : ℕ) (ws : Words)
    → let r = passes G maxw k (record { sides = sides_of G part; better = true; words = ws }) in
    (later : List Entry) × Comes G maxw part (start_pass G maxw r.sides r.words) later

-- what laws B3 and B7 ask of such a pass, and what they say
pub record PassSound (G : Hypergraph) (h : Lawful G) (p : Pass) (heap : List Entry) : Type 0 where
  pub sided : Sided (vertex_count G) p.sides.part
  pub gains : (v : ℕ) → v < vertex_count G
      → gain G p.sides.part v ≡ of_int binary64 (sub_ℕ (made_uncut h.whole p.sides.part v) (newly_cut h.whole p.sides.part v))
  pub keys : (v : ℕ) → waits p.queue v ≡ true → Numbered (entry_of p.queue v)
  pub numbered : All Numbered heap
  pub heap_of : HeapOf (vertex_count G) p.gains.moves p.queue heap
  -- the heap gives something or runs empty, and what it gives is the largest entry
  pub gives : (o : Option Entry) × (rest : List Entry) × Gives p.gains.moves p.queue heap o rest
  pub largest_given : (o : Option Entry) (rest : List Entry) → Gives p.gains.moves p.queue heap o rest → o ≡ largest (vertex_count G) p.queue

-- So laws B3 and B7 hold at every pass that bisection of an accepted network comes to, and ask for nothing more.
abbrev pub PassesSound : Type 0
PassesSound = (N : Network) → accepted N ≡ true → (G : Hypergraph) → Reached N G → (part : List ℕ) → Starts G part → (maxw : Float) (p : Pass) (heap : List Entry)
    → Comes G maxw part p heap → (h : Lawful G) × PassSound G h p heap

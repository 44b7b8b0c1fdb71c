-- Recursive multilevel bisection: `initial`, `bisect`, `bisect_rec`, `bisection`. Definitions only. Assumes nothing.
use Rattle.std.specs.Prelude.{Bool, true, false, not, ◌||◌, cond, List, [], ◌∷◌, ◌++◌, map, ℕ, zero, suc, ◌-◌, max, eqb, leb, length, get_or, set, replicate, Float, Option, None, Some, Result, Err, Ok}
use Rattle.spec.specs.declared.Refusal.TheVariants.{DrawsExhausted}
use Rattle.spec.specs.declared.Refusal.{Refusal}
use Rattle.std.specs.Float.{binary64}
use Rattle.std.specs.Float.Ieee.{add, mul, div, neg, lt, le}
use Rattle.spec.specs.Lists.{range}
use Rattle.spec.specs.Floats.{decimal, zero_float, micro, whole_float, greater, lesser}
use Rattle.spec.specs.Draws.{Words, lent_words, Drawn, drawn, unit_draw, index_draw}
use Rattle.spec.specs.Refusal.{and_then}
use Rattle.spec.specs.Network.{Network, leaf_count}
use Rattle.spec.specs.Tree.{Pair}
use Rattle.spec.specs.Greedy.{Built, join_all, leaves_of, greedy_from}
use Rattle.spec.specs.Hypergraph.{until, fold_over, Net, Hypergraph, vertex_count, vertex_weight, total_weight, nets_at, hypergraph_of, side_of, cut}
use Rattle.spec.specs.Fm.{fm}
use Rattle.spec.specs.Coarsen.{Level, coarsen}

-- ---- a first partition: side 1 grows from a drawn vertex, along its nets, to half of the weight ----

-- the next vertex to come to side 1, if there is one; how strongly each vertex is connected to that side
pub record Growth : Type 0 where
  pub part : List ℕ
  pub weight : Float
  pub links : List Float
  pub next : Option ℕ
  pub words : Words

-- the strongest connection so far
pub record Strongest : Type 0 where
  pub link : Float
  pub vertex : Option ℕ
  pub words : Words

module _ (G : Hypergraph) where
  -- a vertex of side 0 is looked at: its connection with a little noise, which takes a draw
  abbrev pub offered : List ℕ → List Float → ℕ → Strongest → Strongest
  offered part links u c =
      let d = unit_draw c.words in
      let link = add binary64 (get_or links u zero_float) (mul binary64 micro d.value) in
      let better = lt c.link link in
      let new : Strongest = record { link = cond better link c.link; vertex = cond better (Some u) c.vertex; words = d.words } in
      cond (eqb (side_of part u) 0) new c

  abbrev pub strongest : List ℕ → List Float → Words → Strongest
  strongest part links ws =
      fold_over (offered part links) (range (vertex_count G)) (record { link = neg (whole_float 1); vertex = None; words = ws })

  abbrev pub linked_by : Net → List Float → List Float
  linked_by e links = fold_over (λ u l. set l u (add binary64 (get_or l u zero_float) e.weight)) e.pins links

  abbrev pub half : Float
  half = div binary64 (total_weight G) (whole_float 2)

  -- v comes to side 1; growth ends at half of the weight
  abbrev pub grown_on : List ℕ → Float → List Float → Strongest → Growth
  grown_on part w links s = record { part = part; weight = w; links = links; next = s.vertex; words = s.words }

  abbrev pub grown_by : List ℕ → Float → ℕ → Growth → Growth
  grown_by part w v g =
      let links = fold_over linked_by (nets_at G v) g.links in
      let on = grown_on part w links (strongest part links g.words) in
      let end : Growth = record { part = part; weight = w; links = g.links; next = None; words = g.words } in
      cond (le half w) end on

  abbrev pub growth_turn : Option ℕ → Growth → Growth
  growth_turn None g = g
  growth_turn (Some v) g = grown_by (set g.part v 1) (add binary64 g.weight (vertex_weight G v)) v g

  abbrev pub ended : Option ℕ → Bool
  ended None = true
  ended (Some v) = false

  abbrev pub grown : Words → Growth
  grown ws =
      let seed = index_draw (vertex_count G) ws in
      until (suc (vertex_count G)) (λ g. ended g.next) (λ g. growth_turn g.next g)
      (record {
        part = replicate (vertex_count G) 0;
        weight = zero_float;
        links = replicate (vertex_count G) zero_float;
        next = Some seed.value;
        words = seed.words;
      })

-- ---- the best of eight ----

pub record Candidate : Type 0 where
  pub cut : Float
  pub part : List ℕ

abbrev pub better : Option Candidate → Candidate → Candidate
better None c = c
better (Some b) c = cond (lt c.cut b.cut) c b

module _ (G : Hypergraph) (maxw : Float) where
  abbrev pub candidate_of : List ℕ → Candidate
  candidate_of part = record { cut = cut G part; part = part }

  -- a growth, refined in at most eight passes
  abbrev pub candidate : Words → Drawn (List ℕ)
  candidate ws =
      let g = grown G ws in
      fm G maxw 8 g.part g.words

  -- k tries; the first of the least cut
  abbrev pub tries : ℕ → Option Candidate → Words → Drawn (Option Candidate)
  tries zero best ws = drawn best ws
  tries (suc k) best ws =
      let c = candidate ws in
      tries k (Some (better best (candidate_of c.value))) c.words

  abbrev pub part_of : Option Candidate → List ℕ
  part_of None = []
  part_of (Some c) = c.part

  unfoldable pub initial : Words → Drawn (List ℕ)
  initial ws =
      let t = tries 8 None ws in
      drawn (part_of t.value) t.words

-- ---- through coarser hypergraphs and back ----

-- "clamped as in the Rust"
abbrev pub imbalance : ℕ → Float
imbalance i = lesser (greater (decimal i 1000) (decimal 1 1000)) (decimal 9 10)

-- the most that a side may weigh
abbrev pub side_limit : Float → Float → Float
side_limit total eps =
    let least = add binary64 (div binary64 total (whole_float 2)) (whole_float 1) in
    lesser (greater (div binary64 (mul binary64 total (add binary64 (whole_float 1) eps)) (whole_float 2)) least)
    (greater (mul binary64 (decimal 95 100) total) least)

-- a partition of the coarser hypergraph is one of the finer, refined in at most four passes
abbrev pub refined_from : Hypergraph → Float → Level → Drawn (List ℕ) → Drawn (List ℕ)
refined_from G maxw l d = fm G maxw 4 (map (side_of d.value) l.places) d.words

abbrev pub through_level : Hypergraph → Float → Option Level → Words → (Hypergraph → Words → Drawn (List ℕ)) → Drawn (List ℕ)
through_level G maxw None ws go = initial G maxw ws
through_level G maxw (Some l) ws go = refined_from G maxw l (go l.graph ws)

-- a hypergraph of over 48 vertices is made coarser, as long as that is worthwhile
abbrev pub multilevel : ℕ → Float → Hypergraph → Words → Drawn (List ℕ)
multilevel zero maxw G ws = initial G maxw ws
multilevel (suc fuel) maxw G ws =
    let c = coarsen G (div binary64 maxw (whole_float 3)) ws in
    let through = through_level G maxw c.value c.words (λ H w. multilevel fuel maxw H w) in
    let here = initial G maxw ws in
    cond (leb (vertex_count G) 48) here through

-- each level has fewer vertices
unfoldable pub bisect : Hypergraph → Float → Words → Drawn (List ℕ)
bisect G eps ws = multilevel (vertex_count G) (side_limit (total_weight G) eps) G ws

-- ---- "Bisection calls itself on each half, and halves shrink." ----

-- what is built, and the words
pub record Halved : Type 0 where
  pub built : Built
  pub words : Words

abbrev pub with_words : Words → Result Built Refusal → Result Halved Refusal
with_words ws r = and_then r (λ b. Ok (record { built = b; words = ws }))

-- the members whose place passes a test, the first one's place being k
abbrev pub members_at : (ℕ → Bool) → ℕ → List ℕ → List ℕ
members_at p k [] = []
members_at p k (l ∷ ls) =
    let rest = members_at p (suc k) ls in
    cond (p k) (l ∷ rest) rest

-- the two halves of a list of leaves: side 0 goes left
abbrev pub left_half : List ℕ → List ℕ → List ℕ
left_half part leaves = members_at (λ v. eqb (side_of part v) 0) 0 leaves

abbrev pub right_half : List ℕ → List ℕ → List ℕ
right_half part leaves = members_at (λ v. not (eqb (side_of part v) 0)) 0 leaves

module _ (N : Network) (eps : Float) (cutoff : ℕ) where
  -- small ends: greedy over the leaves
  abbrev pub small_end : List ℕ → List Pair → Words → Result Halved Refusal
  small_end leaves a ws = with_words ws (greedy_from N a (leaves_of leaves))

  -- the two halves' trees are joined, the left half's first
  abbrev pub join_halves : Halved → Halved → Halved
  join_halves x y = record { built = join_all N y.built.pairs (x.built.tops ++ y.built.tops); words = y.words }

  -- `go` is bisection of a half
  abbrev pub halves : (List ℕ → List Pair → Words → Result Halved Refusal) → List ℕ → List ℕ → List Pair → Words → Result Halved Refusal
  halves go left right a ws =
      and_then (go left a ws) (λ x. and_then (go right x.built.pairs x.words) (λ y. Ok (join_halves x y)))

  -- 13 if a draw was due and no word was left; a partition with an empty side is no bisection
  abbrev pub split : (List ℕ → List Pair → Words → Result Halved Refusal) → List ℕ → List Pair → Drawn (List ℕ) → Result Halved Refusal
  split go leaves a d =
      let left = left_half d.value leaves in
      let right = right_half d.value leaves in
      let whole = small_end leaves a d.words in
      let parts = halves go left right a d.words in
      let answer = cond (eqb (length left) 0 || eqb (length right) 0) whole parts in
      cond d.words.exhausted (Err DrawsExhausted) answer

  -- "any whole cutoff, read as at least 2"
  abbrev pub bisect_rec : ℕ → List ℕ → List Pair → Words → Result Halved Refusal
  bisect_rec zero leaves a ws = small_end leaves a ws
  bisect_rec (suc fuel) leaves a ws =
      let parts = split (λ l b w. bisect_rec fuel l b w) leaves a (bisect (hypergraph_of N leaves) eps ws) in
      let small = small_end leaves a ws in
      cond (leb (length leaves) (max cutoff 2)) small parts

-- the array, and how many words were taken
pub record Bisected : Type 0 where
  pub pairs : List Pair
  pub taken : ℕ

abbrev pub bisected_from : List ℕ → Halved → Bisected
bisected_from words h = record { pairs = h.built.pairs; taken = length words - length h.words.left }

-- the plan of a network by bisection, with an imbalance of i thousandths
unfoldable pub bisection : Network → ℕ → ℕ → List ℕ → Result Bisected Refusal
bisection N i cutoff words =
    and_then (bisect_rec N (imbalance i) cutoff (leaf_count N) (range (leaf_count N)) [] (lent_words words)) (λ h. Ok (bisected_from words h))

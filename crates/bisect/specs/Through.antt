-- A partition through coarser levels and back: what is promised at each level, for every number of levels that suffices. Assumes nothing.
use Rattle.std.specs.Prelude.{Bool, true, false, cond, ◌≡◌, refl, List, [], ◌∷◌, map, ℕ, zero, suc, ◌+◌, ◌-◌, ◌*◌, ◌≤◌, ◌<◌, Float, take, Option}
use Rattle.std.proofs.Common.{sym, ap, ◌∙◌, subst, arith, le-leb, get_or-take, take_all, length-take-le}
use Rattle.std.proofs.lemmas.Bool.{lt-leb}
use Rattle.std.specs.Float.{binary64}
use Rattle.std.specs.Float.Ieee.{div, of_bits, of_int, round}
use Rattle.std.proofs.Math.ListN.{length}
use Rattle.spec.specs.Floats.{zero_float, whole_float}
use Rattle.spec.specs.Draws.{Words, Drawn, drawn}
use Rattle.spec.specs.Hypergraph.{fold_over, Net, Hypergraph, vertex_count, side_of}
use Rattle.spec.specs.Fm.{fm}
use Rattle.spec.specs.Coarsen.{Level, coarsen}
use Rattle.spec.specs.Bisection.{initial, side_limit, through_level, refined_from, multilevel, bisect}
use Rattle.laws.specs.Booleans.{clash}
use Rattle.network.specs.Layouts.{map-range_ext}
use Rattle.partition.specs.Layout.{net_in, graph_in}
use Rattle.moves.specs.Kept.{Kept}
use Rattle.moves.specs.Laying.{Bits}
use Rattle.coarsen.specs.Level.{enough, level_if}
use Rattle.levels.specs.Spans.{summed, span, span_length}
use Rattle.levels.specs.Shrinks.{three_fewer, found_fewer}
use Rattle.levels.specs.Stage.{front_none, front_span, Stage, graph_at, places_at, Keeps, level_kept, stage_kept, keeps_then, keeps_graph, Gives}
use Rattle.levels.specs.Deeper.{Deeper, Tried, is_few, is_more}

-- The front of the list is the partition of level l, whatever number of levels the definition may go down, if it is at least that of the vertices.
pub record Through (l m n : ℕ) (maxw : Float) (words words' : Words) (ws weights : List ℕ) (vw : List Float) (places ws' weights' : List ℕ) (vw' : List Float)
    (places' part' : List ℕ) : Type 0 where
  pub same : (fuel : ℕ) → n ≤ fuel → drawn (take n part') words' ≡ multilevel fuel maxw (graph_at ws weights vw l m n) words
  pub bits : Bits (take n part')
  pub kept : Keeps l ws weights vw places ws' weights' vw' places'

-- ---- the definition by cases ----

module _ (maxw : Float) (G : Hypergraph) (ws : Words) where
  abbrev past : ℕ → Drawn (Option Level) → Drawn (List ℕ)
  past fuel c = through_level G maxw c.value c.words (λ H w. multilevel fuel maxw H w)

  abbrev coarse : Drawn (Option Level)
  coarse = coarsen G (div binary64 maxw (whole_float 3)) ws

  few_vertices : (fuel : ℕ) → vertex_count G ≤ 48 → multilevel fuel maxw G ws ≡ initial G maxw ws
  few_vertices zero h = refl
  few_vertices (suc fuel) h = ap (λ b. cond b (initial G maxw ws) (past fuel coarse)) (le-leb (vertex_count G) 48 h)

  more_vertices : (fuel : ℕ) → 48 < vertex_count G → multilevel (suc fuel) maxw G ws ≡ past fuel coarse
  more_vertices fuel h = ap (λ b. cond b (initial G maxw ws) (past fuel coarse)) (lt-leb (vertex_count G) 48 h)

  -- no level is worthwhile
  none_deeper : (ws' : Words) (L : Level) (found : Bool) (fuel : ℕ) → 0 < fuel → 48 < vertex_count G → found ≡ false → drawn (level_if found L) ws' ≡ coarse
      → initial G maxw ws' ≡ multilevel fuel maxw G ws
  none_deeper ws' L found zero b h f e = absurd (omega arith)
  none_deeper ws' L found (suc fuel) b h f e =
      sym (more_vertices fuel h ∙ ap (past fuel) (sym e) ∙ ap (λ t. past fuel (drawn (level_if t L) ws')) f)

  -- one is
  one_deeper : (ws' : Words) (L : Level) (found : Bool) (fuel : ℕ) → 48 < vertex_count G → found ≡ true → drawn (level_if found L) ws' ≡ coarse
      → refined_from G maxw L (multilevel fuel maxw L.graph ws') ≡ multilevel (suc fuel) maxw G ws
  one_deeper ws' L found fuel h f e =
      sym (more_vertices fuel h ∙ ap (past fuel) (sym e) ∙ ap (λ t. past fuel (drawn (level_if t L) ws')) f)

-- ---- lists ----

-- sides of coarse vertices, projected
bits_map : (p l : List ℕ) → Bits p → Bits (map (side_of p) l)
bits_map p [] h v = omega arith
bits_map p (x ∷ l) h zero = h x
bits_map p (x ∷ l) h (suc v) = bits_map p l h v

keeps_none : (l : ℕ) (ws weights : List ℕ) (vw : List Float) (places ws' : List ℕ) → l ≤ 27 → Kept 28672 ws ws' → Keeps l ws weights vw places ws' weights vw places
keeps_none l ws weights vw places ws' low k =
    record {
      words = record { same = λ i b. k.same i (omega arith); long = k.long };
      nets = front_none (l * 256 + 256) weights;
      vertices = front_none (l * 128 + 128) vw;
      maps = front_none (l * 128) places;
    }

-- the weights of nets past the m-th are not read
pub graph_front : (ws : List ℕ) (nets : ℕ) (weights : List ℕ) (k m : ℕ) (vw : List Float) → m ≤ k → graph_in ws nets (take k weights) m vw ≡ graph_in ws nets weights m vw
unfolding graph_in
graph_front ws nets weights k m vw b =
    ap (λ (l : List Net). record { weights = vw; nets = l })
    (map-range_ext (record { pins = []; weight = zero_float }) (net_in ws nets (take k weights)) (net_in ws nets weights) m
    (λ e h. ap (λ (w : ℕ). record { pins = (net_in ws nets weights e).pins; weight = whole_float w }) (get_or-take k weights e 0 (omega arith))))

pub at_least : (k a b : ℕ) → a ≡ b → k ≤ b → k ≤ a
at_least k a b e h = omega arith

pub up_to : (a b c : ℕ) → a ≤ b → b ≤ c → a ≤ c
up_to a b c h k = omega arith

pub fewer_than : (a b t : ℕ) → a + 3 ≤ b → b ≡ t → a < t
fewer_than a b t h e = omega arith

-- 3.0 by its bits
three : of_bits binary64 4613937818241073152 ≡ whole_float 3
unfolding of_bits of_int round
three = refl

pub third_of : (x : Float) → div binary64 x (of_bits binary64 4613937818241073152) ≡ div binary64 x (whole_float 3)
third_of x = ap (div binary64 x) three

-- a partition, projected along a map that is read
pub projected_on : {part places places' : List ℕ} (p : List ℕ) (a e : ℕ) → part ≡ map (side_of p) (span a e places') → places' ≡ places → part ≡ map (side_of p) (span a e places)
projected_on p a e q r = q ∙ ap (λ (l : List ℕ). map (side_of p) (span a e l)) r

-- ---- a level ----

pub vertices_are : (l m n : ℕ) (ws weights : List ℕ) (vw : List Float) (places : ℕ) → Stage ws (length weights) (length vw) places l m n → vertex_count (graph_at ws weights vw l m n) ≡ n
unfolding graph_in
vertices_are l m n ws weights vw places h = span_length (l * 128) n vw (omega (arith, h.low, h.room, h.vertices_fit))

-- at most 48 vertices
pub through_small : (l m n : ℕ) (maxw : Float) (words : Words) (ws weights : List ℕ) (vw : List Float) (places : List ℕ)
    → Stage ws (length weights) (length vw) (length places) l m n → (ws' part' : List ℕ) (words' : Words) → n ≤ 48
    → Gives n (initial (graph_at ws weights vw l m n) maxw words) ws ws' part' words'
    → Through l m n maxw words words' ws weights vw places ws' weights vw places part'
through_small l m n maxw words ws weights vw places h ws' part' words' b g =
    record {
      same = λ fuel f. g.given
          ∙ sym (few_vertices maxw (graph_at ws weights vw l m n) words fuel (omega (arith, vertices_are l m n ws weights vw (length places) h)));
      bits = g.bits;
      kept = keeps_none l ws weights vw places ws' h.low g.kept;
    }

module _ {l m n : ℕ} {limit : Float} {words words₁ : Words} {ws weights : List ℕ} {vw : List Float} {places ws₁ weights₁ : List ℕ} {vw₁ : List Float} {places₁ : List ℕ}
    {found : Bool} {m₁ n₁ : ℕ} (d : Deeper l m n limit words words₁ ws weights vw places ws₁ weights₁ vw₁ places₁ found m₁ n₁)
    (h : Stage ws (length weights) (length vw) (length places) l m n) (over : 48 < n) where
  abbrev here : Hypergraph
  here = graph_at ws weights vw l m n

  abbrev next : Level
  next = record { graph = graph_at ws₁ weights₁ vw₁ (l + 1) m₁ n₁; places = places_at places₁ l n }

  count_here : vertex_count here ≡ n
  count_here = vertices_are l m n ws weights vw (length places) h

  again : graph_at ws₁ weights₁ vw₁ l m n ≡ here
  again = level_kept l m n ws weights vw places ws₁ weights₁ vw₁ places₁ d.kept h.mesh.few.0 h.mesh.few.1

  pub stage_after : Stage ws₁ (length weights₁) (length vw₁) (length places₁) l m n
  stage_after = stage_kept l m n ws weights vw places ws₁ weights₁ vw₁ places₁ d.kept h

  pub fewer_there : found ≡ true → n₁ + 3 ≤ n
  unfolding graph_in
  fewer_there f =
      let z : length (span ((l + 1) * 128) ((l + 1) * 128 + n₁) vw₁) ≡ n₁ =
      span_length ((l + 1) * 128) n₁ vw₁ (omega (arith, (d.stage f).low, (d.stage f).room, (d.stage f).vertices_fit)) in
      three_fewer n n₁ over (omega (arith, h.room)) d.fewer
      ((λ i. enough (sym count_here i) (sym z i)) ∙ found_fewer here limit words words₁ found next f d.level)

  module _ (maxw : Float) (third : limit ≡ div binary64 maxw (whole_float 3)) where
    level_is : drawn (level_if found next) words₁ ≡ coarsen here (div binary64 maxw (whole_float 3)) words
    level_is = d.level ∙ ap (λ x. coarsen here x words) third

    -- no coarser level is worthwhile
    pub through_none : {ws₂ part' : List ℕ} {words₂ : Words} → found ≡ false → Gives n (initial (graph_at ws₁ weights₁ vw₁ l m n) maxw words₁) ws₁ ws₂ part' words₂
        → Through l m n maxw words words₂ ws weights vw places ws₂ weights₁ vw₁ places₁ part'
    through_none {ws₂} {part'} {words₂} f g =
        record {
          same = λ fuel b. g.given ∙ ap (λ (G : Hypergraph). initial G maxw words₁) again
              ∙ none_deeper maxw here words words₁ next found fuel (omega (arith, h.some_left)) (omega (arith, count_here)) f level_is;
          bits = g.bits;
          kept = keeps_graph l ws weights vw places ws₁ weights₁ vw₁ places₁ ws₂ h.low d.kept g.kept;
        }

  -- the coarser level's partition is given
  module _ {maxw : Float} {ws₂ weights₂ : List ℕ} {vw₂ : List Float} {places₂ part₂ : List ℕ} {words₂ : Words}
      (t : Through (l + 1) m₁ n₁ maxw words₁ words₂ ws₁ weights₁ vw₁ places₁ ws₂ weights₂ vw₂ places₂ part₂) where
    back_kept : Keeps l ws weights vw places ws₂ weights₂ vw₂ places₂
    back_kept = keeps_then l ws weights vw places ws₁ weights₁ vw₁ places₁ ws₂ weights₂ vw₂ places₂ d.kept t.kept

    pub back_stage : Stage ws₂ (length weights₂) (length vw₂) (length places₂) l m n
    back_stage = stage_kept l m n ws weights vw places ws₂ weights₂ vw₂ places₂ back_kept h

    back_graph : graph_at ws₂ weights₂ vw₂ l m n ≡ here
    back_graph = level_kept l m n ws weights vw places ws₂ weights₂ vw₂ places₂ back_kept h.mesh.few.0 h.mesh.few.1

    back_places : places_at places₂ l n ≡ places_at places₁ l n
    back_places = front_span ((l + 1) * 128) (l * 128) (l * 128 + n) places₁ places₂ (omega arith) (omega (arith, h.room)) t.kept.maps

    pub back_bits : (part₃ : List ℕ) → take n part₃ ≡ map (side_of (take n₁ part₂)) (places_at places₂ l n) → Bits (take n part₃)
    back_bits part₃ e = subst Bits (sym e) (bits_map (take n₁ part₂) (places_at places₂ l n) t.bits)

    -- THROUGH A COARSER LEVEL AND BACK
    pub through_level_lem : {ws₃ part₄ : List ℕ} {words₃ : Words} (part₃ : List ℕ) → limit ≡ div binary64 maxw (whole_float 3) → found ≡ true
        → take n part₃ ≡ map (side_of (take n₁ part₂)) (places_at places₂ l n)
        → Gives n (fm (graph_at ws₂ weights₂ vw₂ l m n) maxw 4 (take n part₃) words₂) ws₂ ws₃ part₄ words₃
        → Through l m n maxw words words₃ ws weights vw places ws₃ weights₂ vw₂ places₂ part₄
    through_level_lem {ws₃} {part₄} {words₃} part₃ third f e g =
        record {
          same = λ fuel b. g.given ∙ (λ i. fm (back_graph i) maxw 4 ((e ∙ ap (map (side_of (take n₁ part₂))) back_places) i) words₂) ∙ deeper fuel b;
          bits = g.bits;
          kept = keeps_graph l ws weights vw places ws₂ weights₂ vw₂ places₂ ws₃ h.low back_kept g.kept;
        }
      where
        deeper : (fuel : ℕ) → n ≤ fuel → refined_from here maxw next (drawn (take n₁ part₂) words₂) ≡ multilevel fuel maxw here words
        deeper zero b = absurd (omega (arith, h.some_left))
        deeper (suc fuel) b =
            ap (refined_from here maxw next) (t.same fuel (omega (arith, fewer_there f)))
            ∙ one_deeper maxw here words words₁ next found fuel (omega (arith, count_here)) f (level_is maxw third)

-- ---- a level that may be left as it is ----

record Held : Type 0 where
  ws : List ℕ
  weights : List ℕ
  vw : List Float
  places : List ℕ
  words : Words

module _ {l m n : ℕ} {limit : Float} {words words₁ : Words} {ws weights : List ℕ} {vw : List Float} {places ws₁ weights₁ : List ℕ} {vw₁ : List Float} {places₁ : List ℕ}
    {found : Bool} {m₁ n₁ : ℕ} (t : Tried l m n limit words words₁ ws weights vw places ws₁ weights₁ vw₁ places₁ found m₁ n₁)
    (h : Stage ws (length weights) (length vw) (length places) l m n) where
  abbrev Here : Type 0
  Here = Tried l m n limit words words₁ ws weights vw places ws₁ weights₁ vw₁ places₁ found m₁ n₁

  all_same : words₁ ≡ words → ws₁ ≡ ws → weights₁ ≡ weights → vw₁ ≡ vw → places₁ ≡ places
      → ◌≡◌ {A = Held} (record { ws = ws₁; weights = weights₁; vw = vw₁; places = places₁; words = words₁ }) (record { ws = ws; weights = weights; vw = vw; places = places; words = words })
  all_same ea e₁ e₂ e₃ e₄ i = record { ws = e₁ i; weights = e₂ i; vw = e₃ i; places = e₄ i; words = ea i }

  pub tried_stage : Stage ws₁ (length weights₁) (length vw₁) (length places₁) l m n
  tried_stage = go t
    where
      go : Here → Stage ws₁ (length weights₁) (length vw₁) (length places₁) l m n
      go (is_few b f ea e₁ e₂ e₃ e₄) =
          subst (λ (x : Held). Stage x.ws (length x.weights) (length x.vw) (length x.places) l m n) (sym (all_same ea e₁ e₂ e₃ e₄)) h
      go (is_more b d) = stage_after d h b

  -- a level was found
  pub tried_more : found ≡ true → (48 < n) × Deeper l m n limit words words₁ ws weights vw places ws₁ weights₁ vw₁ places₁ found m₁ n₁
  tried_more e = go t
    where
      go : Here → (48 < n) × Deeper l m n limit words words₁ ws weights vw places ws₁ weights₁ vw₁ places₁ found m₁ n₁
      go (is_few b f ea e₁ e₂ e₃ e₄) = clash e f
      go (is_more b d) = (b, d)

  -- none was
  pub tried_none : (maxw : Float) → limit ≡ div binary64 maxw (whole_float 3) → {ws₂ part' : List ℕ} {words₂ : Words} → found ≡ false
      → Gives n (initial (graph_at ws₁ weights₁ vw₁ l m n) maxw words₁) ws₁ ws₂ part' words₂
      → Through l m n maxw words words₂ ws weights vw places ws₂ weights₁ vw₁ places₁ part'
  tried_none maxw third {ws₂} {part'} {words₂} f g = go t
    where
      go : Here → Through l m n maxw words words₂ ws weights vw places ws₂ weights₁ vw₁ places₁ part'
      go (is_few b f' ea e₁ e₂ e₃ e₄) =
          subst (λ (x : Held). Through l m n maxw x.words words₂ x.ws x.weights x.vw x.places ws₂ weights₁ vw₁ places₁ part') (all_same ea e₁ e₂ e₃ e₄)
          (through_small l m n maxw words₁ ws₁ weights₁ vw₁ places₁ tried_stage ws₂ part' words₂ b g)
      go (is_more b d) = through_none d h b maxw third f g

-- ---- level 0 ----

pub front_fits : (ws : List ℕ) (a b c m n : ℕ) → Stage ws a b c 0 m n → n ≤ b
front_fits ws a b c m n h = omega (arith, h.room, h.vertices_fit)

pub as_long : (a n : ℕ) → a ≡ n → n ≤ a
as_long a n e = omega arith

first_level : (ws weights : List ℕ) (vw : List Float) (m n : ℕ) → m ≤ 256 → graph_at ws weights vw 0 m n ≡ graph_in ws 0 weights m (take n vw)
first_level ws weights vw m n b =
    let z : 0 * 128 + n - 0 * 128 ≡ n = omega arith in
    ap (λ (k : ℕ). graph_in ws 0 (take 256 weights) m (take k vw)) z ∙ graph_front ws 0 weights 256 m (take n vw) b

-- THE HYPERGRAPH, HALVED
pub halved : {m n : ℕ} {maxw : Float} {words words' : Words} {ws weights : List ℕ} {vw : List Float} {places ws' weights' : List ℕ} {vw' : List Float} {places' part' : List ℕ}
    (eps total : Float) → Stage ws (length weights) (length vw) (length places) 0 m n → length part' ≡ n → total ≡ fold_over summed (take n vw) zero_float → maxw ≡ side_limit total eps
    → Through 0 m n maxw words words' ws weights vw places ws' weights' vw' places' part'
    → (drawn part' words' ≡ bisect (graph_in ws 0 weights m (take n vw)) eps words) × Bits part'
unfolding bisect graph_in
halved {m} {n} {maxw} {words} {words'} {ws} {weights} {vw} {places} {part' = part'} eps total h long et em t =
    let z : take n part' ≡ part' = take_all n part' (omega arith) in
    let k : length (take n vw) ≡ n = length-take-le n vw (front_fits ws (length weights) (length vw) (length places) m n h) in (
      ap (λ (p : List ℕ). drawn p words') (sym z)
          ∙ t.same (length (take n vw)) (omega arith)
          ∙ (λ i. multilevel (length (take n vw)) ((em ∙ ap (λ (x : Float). side_limit x eps) et) i) (first_level ws weights vw m n h.mesh.few.0 i) words),
      subst Bits z t.bits,
    )

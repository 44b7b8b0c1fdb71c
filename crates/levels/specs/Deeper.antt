-- A level is made coarser: the next level, its weights and the map to it. Assumes nothing.
use Rattle.std.specs.Prelude.{Bool, true, false, ◌≡◌, List, ◌++◌, ℕ, ◌+◌, ◌-◌, ◌*◌, ◌≤◌, ◌<◌, Float, take, drop}
use Rattle.std.proofs.Common.{sym, ◌∙◌, subst, arith, length-append, length-drop, take-take, take_all, take_at, drop_at, length-take-le}
use Rattle.std.proofs.Math.Path.{ap}
use Rattle.std.proofs.Math.ListN.{length}
use Rattle.spec.specs.Memory.{placed}
use Rattle.spec.specs.Draws.{Words, drawn}
use Rattle.spec.specs.Coarsen.{Level, coarsen}
use Rattle.cells.specs.Cells.{placed_length, placed_nothing_before, placed_there}
use Rattle.partition.specs.Layout.{graph_in}
use Rattle.coarsen.specs.Level.{enough, level_if, level_in, Coarser}
use Rattle.levels.specs.Spans.{span, span_length}
use Rattle.levels.specs.Shrinks.{three_fewer, found_fewer}
use Rattle.levels.specs.Stage.{Front, Stage, nets_at, vertices_at, places_at, graph_at, Keeps}

-- ---- lists ----

module _ {A : Type 0} where
  placed_span : (d s : List A) (a n : ℕ) → length s ≡ n → a + n ≤ length d → span a (a + n) (placed d a s) ≡ s
  placed_span d s a n e h =
      let z : a + n - a ≡ length s = omega arith in
      ap (λ (k : ℕ). take k (drop a (placed d a s))) z ∙ placed_there d s a (omega arith)

  placed_part : (d s : List A) (a j n : ℕ) → length s ≡ n → j ≤ n → a + n ≤ length d → span a (a + j) (placed d a s) ≡ take j s
  placed_part d s a j n e b h =
      let z : a + j - a ≡ j = omega arith in
      ap (λ (k : ℕ). take k (drop a (placed d a s))) z ∙ sym (take-take j (length s) (drop a (placed d a s)) (omega arith)) ∙ ap (take j) (placed_there d s a (omega arith))

  placed_front : (d s : List A) (a : ℕ) → Front a d (placed d a s)
  placed_front d s a = (placed_nothing_before d s a, placed_length d s a)

  -- a part from a on and below e was lent, and is s
  back_front : (d s : List A) (a e : ℕ) → a ≤ e → e ≤ length d → length s ≡ e - a → Front a d (take a d ++ (s ++ drop (e - a) (drop a d)))
  back_front d s a e b h l =
      let z : length (take a d) ≡ a = length-take-le a d (omega arith) in (
        take_at (take a d) (s ++ drop (e - a) (drop a d)) a z,
        length-append (take a d) (s ++ drop (e - a) (drop a d))
            ∙ (let x : length (s ++ drop (e - a) (drop a d)) ≡ length s + length (drop (e - a) (drop a d)) = length-append s (drop (e - a) (drop a d)) in
            omega (arith, length-drop (e - a) (drop a d), length-drop a d)),
      )

  back_span : (d s : List A) (a e : ℕ) → a ≤ e → e ≤ length d → length s ≡ e - a → span a e (take a d ++ (s ++ drop (e - a) (drop a d))) ≡ s
  back_span d s a e b h l =
      ap (take (e - a)) (drop_at (take a d) (s ++ drop (e - a) (drop a d)) a (length-take-le a d (omega arith))) ∙ take_at s (drop (e - a) (drop a d)) (e - a) l

-- ---- the next level ----

pub record Deeper (l m n : ℕ) (limit : Float) (words words' : Words) (ws weights : List ℕ) (vw : List Float) (places ws' weights' : List ℕ) (vw' : List Float) (places' : List ℕ)
    (found : Bool) (m' n' : ℕ) : Type 0 where
  pub level : drawn (level_if found (record { graph = graph_at ws' weights' vw' (l + 1) m' n'; places = places_at places' l n })) words'
      ≡ coarsen (graph_at ws weights vw l m n) limit words
  pub stage : found ≡ true → Stage ws' (length weights') (length vw') (length places') (l + 1) m' n'
  pub fewer : n' ≤ n
  pub kept : Keeps l ws weights vw places ws' weights' vw' places'

-- a level of at most 48 vertices is left as it is
pub data Tried (l m n : ℕ) (limit : Float) (words words' : Words) (ws weights : List ℕ) (vw : List Float) (places ws' weights' : List ℕ) (vw' : List Float) (places' : List ℕ)
    (found : Bool) (m' n' : ℕ) : Type 0 where
  is_few : n ≤ 48 → found ≡ false → words' ≡ words → ws' ≡ ws → weights' ≡ weights → vw' ≡ vw → places' ≡ places
      → Tried l m n limit words words' ws weights vw places ws' weights' vw' places' found m' n'
  is_more : 48 < n → Deeper l m n limit words words' ws weights vw places ws' weights' vw' places' found m' n'
      → Tried l m n limit words words' ws weights vw places ws' weights' vw' places' found m' n'

module _ (l m n : ℕ) (limit : Float) (words words' : Words) (ws weights : List ℕ) (vw : List Float) (places ws' weights' : List ℕ) (vw' : List Float) (places' : List ℕ)
    (found : Bool) (m' n' : ℕ) (w₂ : List ℕ) (v₂ : List Float) (p₂ mates : List ℕ)
    (h : Stage ws (length weights) (length vw) (length places) l m n) (over : 48 < n)
    (same : drawn (level_if found (level_in ws' ((l + 1) * 512) w₂ m' v₂ n' p₂ (length (vertices_at vw l n)))) words' ≡ coarsen (graph_at ws weights vw l m n) limit words)
    (c : Coarser ws (l * 512) (nets_at weights l) m (vertices_at vw l n) mates ((l + 1) * 512) ((l + 1) * 256 + 128) ws' w₂ m' v₂ n' p₂)
    (long : (length w₂ ≡ 256) × (length v₂ ≡ 128) × (length p₂ ≡ l * 128 + n - l * 128))
    (ew : weights' ≡ placed weights ((l + 1) * 256) w₂) (ev : vw' ≡ placed vw ((l + 1) * 128) v₂)
    (ep : places' ≡ take (l * 128) places ++ (p₂ ++ drop (l * 128 + n - l * 128) (drop (l * 128) places))) where
  vertices_long : length (vertices_at vw l n) ≡ n
  vertices_long = span_length (l * 128) n vw (omega (arith, h.low, h.room, h.vertices_fit))

  few : n' ≤ n
  few = omega (arith, c.few.1, vertices_long)

  abbrev made : Level
  made = record { graph = graph_at ws' weights' vw' (l + 1) m' n'; places = places_at places' l n }

  made_is : level_in ws' ((l + 1) * 512) w₂ m' v₂ n' p₂ (length (vertices_at vw l n)) ≡ made
  made_is =
      let w : nets_at weights' (l + 1) ≡ w₂ =
      ap (nets_at') ew ∙ placed_span weights w₂ ((l + 1) * 256) 256 long.0 (omega (arith, h.low, h.room, h.nets_fit)) in
      let v : vertices_at vw' (l + 1) n' ≡ take n' v₂ =
      ap (vertices_at') ev ∙ placed_part vw v₂ ((l + 1) * 128) n' 128 long.1 (omega (arith, few, h.room)) (omega (arith, h.low, h.room, h.vertices_fit)) in
      let p : places_at places' l n ≡ p₂ =
      ap (places_at') ep ∙ back_span places p₂ (l * 128) (l * 128 + n) (omega arith) (omega (arith, h.low, h.room, h.places_fit)) long.2 in
      let q : take (length (vertices_at vw l n)) p₂ ≡ p₂ = take_all (length (vertices_at vw l n)) p₂ (omega (arith, long.2, vertices_long)) in
      λ i. record { graph = graph_in ws' ((l + 1) * 512) (sym w i) m' (sym v i); places = (q ∙ sym p) i }
    where
      nets_at' : List ℕ → List ℕ
      nets_at' x = nets_at x (l + 1)

      vertices_at' : List Float → List Float
      vertices_at' x = vertices_at x (l + 1) n'

      places_at' : List ℕ → List ℕ
      places_at' x = places_at x l n

  level_is : drawn (level_if found made) words' ≡ coarsen (graph_at ws weights vw l m n) limit words
  level_is = ap (λ (x : Level). drawn (level_if found x) words') (sym made_is) ∙ same

  shrinks : found ≡ true → n' + 3 ≤ n
  unfolding graph_in
  shrinks f =
      let z : length (vertices_at vw' (l + 1) n') ≡ n' =
      span_length ((l + 1) * 128) n' vw' (omega (arith, h.low, h.room, few, h.vertices_fit, ap length ev ∙ placed_length vw v₂ ((l + 1) * 128))) in
      three_fewer n n' over (omega (arith, h.room)) few
      ((λ i. enough (sym vertices_long i) (sym z i)) ∙ found_fewer (graph_at ws weights vw l m n) limit words words' found made f level_is)

  keeps : Keeps l ws weights vw places ws' weights' vw' places'
  keeps =
      let a : (l + 1) * 256 ≡ l * 256 + 256 = omega arith in
      let b : (l + 1) * 128 ≡ l * 128 + 128 = omega arith in
      record {
        words = record { same = λ i k. c.stays.below i (omega arith); long = c.stays.same };
        nets = subst (λ (k : ℕ). Front k weights weights') a (subst (Front ((l + 1) * 256) weights) (sym ew) (placed_front weights w₂ ((l + 1) * 256)));
        vertices = subst (λ (k : ℕ). Front k vw vw') b (subst (Front ((l + 1) * 128) vw) (sym ev) (placed_front vw v₂ ((l + 1) * 128)));
        maps = subst (Front (l * 128) places) (sym ep)
            (back_front places p₂ (l * 128) (l * 128 + n) (omega arith) (omega (arith, h.low, h.room, h.places_fit)) long.2);
      }

  -- DEEPER
  pub deeper : Deeper l m n limit words words' ws weights vw places ws' weights' vw' places' found m' n'
  deeper =
      record {
        level = level_is;
        stage = λ f. record {
          some_left = c.some_left (omega (arith, vertices_long, over));
          low = omega (arith, h.room, over);
          room = omega (arith, h.room, shrinks f);
          mesh = c.meshed;
          within = c.within;
          words = omega (arith, h.words, c.stays.same);
          nets_fit = omega (arith, h.nets_fit, keeps.nets.1);
          vertices_fit = omega (arith, h.vertices_fit, keeps.vertices.1);
          places_fit = omega (arith, h.places_fit, keeps.maps.1);
        };
        fewer = few;
        kept = keeps;
      }

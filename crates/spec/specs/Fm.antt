-- Refinement of a partition by moves of single vertices (Fiduccia and Mattheyses): `fm`. Definitions only. Assumes nothing.
-- The Rust has a heap of entries (key, stamp, vertex), and passes over those that are stale. Here each vertex has at most one entry: the same
-- (FmClaims, law B7).
use Rattle.std.specs.Prelude.{Bool, true, false, not, ◌&&◌, ◌||◌, cond, List, [], ◌∷◌, ℕ, suc, ◌+◌, ◌-◌, ◌*◌, ◌/◌, eqb, ltb, length, get_or, set, take, replicate, Float, Option, None, Some}
use Rattle.std.specs.Float.{binary64}
use Rattle.std.specs.Float.Ieee.{add, sub, mul, lt, le, eq}
use Rattle.spec.specs.Lists.{memb, range}
use Rattle.spec.specs.Floats.{zero_float, micro, nano, round_to}
use Rattle.spec.specs.Draws.{Words, Drawn, drawn, unit_draw}
use Rattle.spec.specs.Hypergraph.{until, fold_over, Hypergraph, vertex_count, vertex_weight, nets_at, all_pins, side_of, other_side, pins_on, Sides, sides_of, side_weight, moved}

-- ---- gains ----

-- A net of weight w, with `here` pins on the vertex's side and `there` on the other: the move makes it uncut if the vertex is alone on its
-- side, and newly cuts it if the other side has none.
abbrev pub gain_net : ℕ → ℕ → Float → Float → Float
gain_net here there w g =
    let freed = cond (eqb here 1) (add binary64 g w) g in
    cond (eqb there 0) (sub binary64 freed w) freed

-- "The gain of a move (Fiduccia and Mattheyses): weight of nets it makes uncut less weight of nets it newly cuts."
abbrev pub gain_at : Hypergraph → List ℕ → ℕ → ℕ → Float
gain_at G part v s = fold_over (λ e g. gain_net (pins_on part s e.pins) (pins_on part (other_side s) e.pins) e.weight g) (nets_at G v) zero_float

unfoldable pub gain : Hypergraph → List ℕ → ℕ → Float
gain G part v = gain_at G part v (side_of part v)

-- ---- entries ----

pub record Entry : Type 0 where
  pub key : Float
  pub stamp : ℕ
  pub vertex : ℕ

-- e comes before f: the larger key, then the later stamp, then the higher vertex
abbrev pub above : Entry → Entry → Bool
above e f =
    lt f.key e.key
    || (eq e.key f.key && (ltb f.stamp e.stamp || (eqb e.stamp f.stamp && ltb f.vertex e.vertex)))

-- The entries by vertex: key and stamp of each vertex, and whether it waits, which is 1 if it has an entry. The words.
pub record Queue : Type 0 where
  pub keys : List Float
  pub stamps : List ℕ
  pub waiting : List ℕ
  pub words : Words

abbrev pub waits : Queue → ℕ → Bool
waits q v = eqb (get_or q.waiting v 0) 1

abbrev pub entry_of : Queue → ℕ → Entry
entry_of q v = record { key = get_or q.keys v zero_float; stamp = get_or q.stamps v 0; vertex = v }

-- the entry that comes first, of the first one so far and of v's, if it has one
abbrev pub or_above : Option Entry → Entry → Entry
or_above None e = e
or_above (Some b) e = cond (above e b) e b

abbrev pub offered : Queue → ℕ → Option Entry → Option Entry
offered q v best =
    let new = Some (or_above best (entry_of q v)) in
    cond (waits q v) new best

abbrev pub largest : ℕ → Queue → Option Entry
largest n q = fold_over (offered q) (range n) None

abbrev pub taken_out : ℕ → Queue → Queue
taken_out v q = record { keys = q.keys; stamps = q.stamps; waiting = set q.waiting v 0; words = q.words }

-- v is entered with its gain and a little noise, in place of its entry so far; each takes a draw
abbrev pub key_of : Float → Float → Float
key_of g u = add binary64 g (mul binary64 nano u)

abbrev pub entered_as : Hypergraph → List ℕ → ℕ → ℕ → Queue → Queue
entered_as G part stamp v q =
    let d = unit_draw q.words in
    record {
      keys = set q.keys v (key_of (gain G part v) d.value);
      stamps = set q.stamps v stamp;
      waiting = set q.waiting v 1;
      words = d.words;
    }

-- all vertices are entered with the stamp 0
abbrev pub first_queue : Hypergraph → List ℕ → Words → Queue
first_queue G part ws =
    fold_over (entered_as G part 0) (range (vertex_count G))
    (record {
      keys = replicate (vertex_count G) zero_float;
      stamps = replicate (vertex_count G) 0;
      waiting = replicate (vertex_count G) 0;
      words = ws;
    })

-- a vertex that has not moved is entered again, with the next stamp
abbrev pub entered_again : Hypergraph → List ℕ → List ℕ → ℕ → Queue → Queue
entered_again G part moves u q =
    let again = entered_as G part (suc (get_or q.stamps u 0)) u q in
    cond (memb u moves) q again

-- ---- a pass ----

-- the moves, the last one first; the sum of their gains; the largest sum, and after how many moves it was reached
pub record Gains : Type 0 where
  pub moves : List ℕ
  pub sum : Float
  pub best : Float
  pub best_at : ℕ

-- the sum has grown by more than 1e-9 over the best
abbrev pub summed : List ℕ → Float → Gains → Gains
summed moves sum g =
    let better = lt (add binary64 g.best nano) sum in
    record { moves = moves; sum = sum; best = cond better sum g.best; best_at = cond better (length moves) g.best_at }

abbrev pub counted : ℕ → Float → Gains → Gains
counted v key g = summed (v ∷ g.moves) (add binary64 g.sum (round_to key micro)) g

pub record Pass : Type 0 where
  pub sides : Sides
  pub queue : Queue
  pub gains : Gains
  pub over : Bool

-- the sides after a pass, and whether it brought more than 1e-9
pub record Refined : Type 0 where
  pub sides : Sides
  pub better : Bool
  pub words : Words

module _ (G : Hypergraph) (maxw : Float) where
  -- "limit": the moves in a row that bring nothing
  abbrev pub move_limit : ℕ
  move_limit = 50 + vertex_count G / 4

  -- the side that v would go to can take it
  abbrev pub fits_in : ℕ → Sides → Bool
  fits_in v S = not (lt maxw (add binary64 (side_weight S (other_side (side_of S.part v))) (vertex_weight G v)))

  -- After a move: past the limit the pass is over, and nothing more is drawn; else each pin of each net of v is entered again.
  abbrev pub after_move : ℕ → Queue → Sides → Gains → Pass
  after_move v q S g =
      let over = ltb move_limit (length g.moves - g.best_at) in
      let again = fold_over (entered_again G S.part g.moves) (all_pins (nets_at G v)) q in
      record { sides = S; queue = cond over q again; gains = g; over = over }

  -- the entry e comes off: its vertex moves, unless the other side can't take it
  abbrev pub taken_off : Entry → Pass → Pass
  taken_off e p =
      let q = taken_out e.vertex p.queue in
      let made = after_move e.vertex q (moved G e.vertex p.sides) (counted e.vertex e.key p.gains) in
      let stays : Pass = record { sides = p.sides; queue = q; gains = p.gains; over = false } in
      cond (fits_in e.vertex p.sides) made stays

  -- without an entry the pass is over
  abbrev pub turn_of : Option Entry → Pass → Pass
  turn_of None p = record { sides = p.sides; queue = p.queue; gains = p.gains; over = true }
  turn_of (Some e) p = taken_off e p

  abbrev pub pass_turn : Pass → Pass
  pass_turn p = turn_of (largest (vertex_count G) p.queue) p

  -- Each turn takes an entry off, and at most one move a vertex puts entries on: (n + 1)² turns are enough.
  abbrev pub run_pass : Pass → Pass
  run_pass p = until (suc (vertex_count G) * suc (vertex_count G)) (λ t. t.over) pass_turn p

  abbrev pub start_pass : Sides → Words → Pass
  start_pass S ws =
      record {
        sides = S;
        queue = first_queue G S.part ws;
        gains = record { moves = []; sum = zero_float; best = zero_float; best_at = 0 };
        over = false;
      }

  -- the moves after the best are taken back, the last one first
  abbrev pub rolled_back : Sides → Gains → Sides
  rolled_back S g = fold_over (moved G) (take (length g.moves - g.best_at) g.moves) S

  abbrev pub end_pass : Pass → Refined
  end_pass p = record { sides = rolled_back p.sides p.gains; better = not (le p.gains.best nano); words = p.queue.words }

  -- at most k passes, while they bring something
  abbrev pub passes : ℕ → Refined → Refined
  passes k r = until k (λ x. not x.better) (λ x. end_pass (run_pass (start_pass x.sides x.words))) r

  unfoldable pub fm : ℕ → List ℕ → Words → Drawn (List ℕ)
  fm k part ws =
      let r = passes k (record { sides = sides_of G part; better = true; words = ws }) in
      drawn r.sides.part r.words

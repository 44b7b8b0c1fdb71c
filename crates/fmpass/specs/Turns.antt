-- A turn of a pass: the first entry comes off, and its vertex moves if the other side can take it. Turn after turn. Assumes nothing.
use Rattle.std.specs.Prelude.{Bool, true, false, not, ◌&&◌, ◌||◌, ◌≡◌, refl, List, [], ◌∷◌, ℕ, ◌+◌, ◌*◌, ◌≤◌, ◌<◌, eqb, Float, length, get_or, set, Option, None, Some}
use Rattle.std.proofs.Math.Bool.{cond}
use Rattle.std.proofs.Common.{sym, ◌∙◌, subst, arith, mul-le-mul_right, add-one, length-set, get_or-set_same, get_or-set_other}
use Rattle.std.proofs.Math.Path.{ap}
use Rattle.std.proofs.Math.Decide.{ℕ_discrete}
use Rattle.spec.specs.Lists.{memb, range}
use Rattle.spec.specs.Draws.{Words}
use Rattle.spec.specs.Hypergraph.{Hypergraph, fold_over, until}
use Rattle.spec.specs.Fm.{Entry, above, Queue, waits, entry_of, offered, largest, Pass, turn_of, pass_turn, run_pass}
use Rattle.laws.specs.Booleans.{by_cases, clash}
use Rattle.partition.specs.Layout.{graph_in}
use Rattle.queue.specs.Open.{open_in}
use Rattle.queue.specs.Queues.{queue_of, no_words}
use Rattle.partition.specs.declared.place.Place.{Place}
use Rattle.partition.specs.Layout.{place}
use Rattle.moves.specs.Kept.{Kept, kept_all, kept_then, graph_kept}
use Rattle.moves.specs.Split.{sides_as, site_placed}
use Rattle.moves.specs.Sums.{Fits}
use Rattle.fmpass.specs.State.{Lists, lists, Run, run, moves_in, pass_in, Stands, Brings}
use Rattle.fmpass.specs.Makes.{made_move}
use Rattle.fmpass.specs.Until.{Left, left_all, left_next, left_stop, left_none}

-- ---- the first entry is one ----

abbrev Waits : Queue → Option Entry → Type 0
Waits q None = ◌≡◌ {A = ℕ} 0 0
Waits q (Some e) = waits q e.vertex ≡ true

offered_waits : (q : Queue) (v : ℕ) (o : Option Entry) → Waits q o → Waits q (offered q v o)
offered_waits q v None h = by_cases (waits q v) (λ e. rw e e) (λ e. rw e h)
offered_waits q v (Some b) h =
    by_cases (waits q v)
    (λ e. rw e (by_cases (above (entry_of q v) b) (λ a. rw a e) (λ a. rw a h)))
    (λ e. rw e h)

fold_waits : (q : Queue) (l : List ℕ) (o : Option Entry) → Waits q o → Waits q (fold_over (offered q) l o)
fold_waits q [] o h = h
fold_waits q (v ∷ l) o h = fold_waits q l (offered q v o) (offered_waits q v o h)

-- ---- a turn ----

open_bits : (x y z : Bool) → x ≡ not y → z ≡ false → ((x || y) && not z) ≡ true
open_bits true y z e f = ap not f
open_bits false true z e f = ap not f
open_bits false false z e f = clash e refl

module _ (nets vertices sides m : ℕ) (vw : List Float) (M : Lists) (R : Run) (h : Stands (place nets vertices sides m (length vw)) M R) where
  abbrev o : Place
  o = place nets vertices sides m (length vw)

  pub same_stands : (sum best : Float) (peak : ℕ) (words : Words) (over : Bool) → Stands o M (run R.count sum best peak words over)
  same_stands sum best peak words over =
      record { site = h.site; split = h.split; locks = h.locks; fresh = h.fresh; once = h.once; low = h.low; under = h.under; long = h.long }

  -- a vertex that is on no side, or has moved, does not wait
  pub closed_rests : (u : ℕ) → u < length vw → open_in M.graph sides u ≡ false → eqb (get_or M.waiting u 0) 1 ≡ false
  closed_rests u b e =
      by_cases (eqb (get_or M.waiting u 0) 1)
      (λ w. clash (open_bits _ _ _ ((site_placed M.graph o M.part h.site h.split).laid.apart u b) (sym (h.locks u b) ∙ h.fresh u w)) e)
      (λ w. w)

  -- WITHOUT AN ENTRY
  pub turn_none : (weights : List ℕ) (maxw : Float) → None ≡ largest (length vw) (queue_of M.keys M.stamps M.waiting no_words)
      → Brings weights vw o (λ H p. pass_turn H maxw p) M M R (run R.count R.sum R.best R.peak R.words true)
  unfolding graph_in
  turn_none weights maxw e =
      record {
        pass = ap (λ (x : Option Entry). turn_of (graph_in M.graph nets weights m vw) maxw x (pass_in M R)) e;
        stands = same_stands R.sum R.best R.peak R.words true;
        kept = kept_all (sides * 2) M.graph;
      }

  module _ (v : ℕ) (e : Some (entry_of (queue_of M.keys M.stamps M.waiting no_words) v) ≡ largest (length vw) (queue_of M.keys M.stamps M.waiting no_words)) where
    module _ (low : v < length vw) where
      pub taken_waits : eqb (get_or M.waiting v 0) 1 ≡ true
      taken_waits = subst (Waits (queue_of M.keys M.stamps M.waiting no_words)) (sym e) (fold_waits (queue_of M.keys M.stamps M.waiting no_words) (range (length vw)) None refl)

      pub taken_free : memb v (moves_in M R) ≡ false
      taken_free = h.fresh v taken_waits

      module _ (keys : List Float) (stamps waiting : List ℕ) (ek : keys ≡ M.keys) (es : stamps ≡ M.stamps) (ew : waiting ≡ set M.waiting v 0) where
        abbrev off : Lists
        off = lists M.graph M.part M.loads keys stamps waiting M.moves

        off_at : get_or waiting v 0 ≡ 0
        off_at = ap (λ l. get_or l v 0) ew ∙ get_or-set_same M.waiting v 0 0 (omega (arith, h.long.2, low))

        pub off_waits : eqb (get_or waiting v 0) 1 ≡ false
        off_waits = ap (λ (z : ℕ). eqb z 1) off_at

        pub off_stands : (sum best : Float) (peak : ℕ) (words : Words) (over : Bool) → Stands o off (run R.count sum best peak words over)
        off_stands sum best peak words over =
            record {
              site = h.site;
              split = h.split;
              locks = h.locks;
              fresh = λ u w. elim (ℕ_discrete u v) [
                | yes z ↦ clash w (ap (λ (x : ℕ). eqb (get_or waiting x 0) 1) z ∙ off_waits)
                | no g ↦ h.fresh u (ap (λ (x : ℕ). eqb x 1) (sym (ap (λ l. get_or l u 0) ew ∙ get_or-set_other M.waiting v u 0 0 g)) ∙ w)
              ];
              once = h.once;
              low = λ u. omega (arith, ap (λ l. get_or l u 0) es, h.low u);
              under = h.under;
              long = (ap length ek ∙ h.long.0, ap length es ∙ h.long.1, ap length ew ∙ length-set M.waiting v 0 ∙ h.long.2, h.long.3);
            }

        module _ (weights : List ℕ) (maxw : Float) (fits : Bool) (ef : Fits vw maxw v (sides_as M.part M.loads) fits) where
          abbrev G' : Hypergraph
          G' = graph_in M.graph nets weights m vw

          abbrev stay : List Float → List ℕ → List ℕ → Pass
          stay k s w = pass_in (lists M.graph M.part M.loads k s w M.moves) (run R.count R.sum R.best R.peak R.words false)

          abbrev make : List Float → List ℕ → List ℕ → Pass
          make k s w = made_move maxw v G' (pass_in (lists M.graph M.part M.loads k s w M.moves) R)

          taken : pass_turn G' maxw (pass_in M R) ≡ cond fits (make keys stamps waiting) (stay keys stamps waiting)
          unfolding graph_in
          taken =
              ap (λ (x : Option Entry). turn_of G' maxw x (pass_in M R)) (sym e)
              ∙ (λ i. cond (sym (ef G' refl) i) (make (sym ek i) (sym es i) (sym ew i)) (stay (sym ek i) (sym es i) (sym ew i)))

          -- THE OTHER SIDE CAN'T TAKE IT
          pub turn_stays : fits ≡ false → Brings weights vw o (λ H p. pass_turn H maxw p) M off R (run R.count R.sum R.best R.peak R.words false)
          turn_stays z =
              record {
                pass = sym (taken ∙ ap (λ t. cond t (make keys stamps waiting) (stay keys stamps waiting)) z);
                stands = off_stands R.sum R.best R.peak R.words false;
                kept = kept_all (sides * 2) M.graph;
              }

          -- THE MOVE
          pub turn_moves : (M' : Lists) (R' : Run) → fits ≡ true → Brings weights vw o (made_move maxw v) off M' R R' → Brings weights vw o (λ H p. pass_turn H maxw p) M M' R R'
          turn_moves M' R' z b =
              record {
                pass = b.pass ∙ sym (taken ∙ ap (λ t. cond t (make keys stamps waiting) (stay keys stamps waiting)) z);
                stands = b.stands;
                kept = b.kept;
              }

-- ---- turn after turn ----

pub square_small : (n : ℕ) → n ≤ 128 → (n + 1) * (n + 1) ≤ 16641
square_small n h = omega (arith, mul-le-mul_right {m = n + 1} {n = 129} (n + 1) (omega arith))

module _ (weights : List ℕ) (vw : List Float) (maxw : Float) (nets vertices sides m : ℕ) (M₀ : Lists) (R₀ : Run) where
  abbrev o₀ : Place
  o₀ = place nets vertices sides m (length vw)

  abbrev most : ℕ
  most = (length vw + 1) * (length vw + 1)

  -- k turns were made
  pub record Runs (M : Lists) (R : Run) (k : ℕ) : Type 0 where
    pub left : Left (λ (t : Pass). t.over) (pass_turn (graph_in M₀.graph nets weights m vw) maxw) most (pass_in M₀ R₀) k (pass_in M R)
    pub stands : Stands o₀ M R
    pub kept : Kept (sides * 2) M₀.graph M.graph

  pub runs_none : Stands o₀ M₀ R₀ → Runs M₀ R₀ 0
  runs_none h = record { left = left_all _ _ most (pass_in M₀ R₀); stands = h; kept = kept_all (sides * 2) M₀.graph }

  pub runs_next : (M M' : Lists) (R R' : Run) (k : ℕ) → k < most → R.over ≡ false → Runs M R k → Brings weights vw o₀ (λ H p. pass_turn H maxw p) M M' R R' → Runs M' R' (k + 1)
  runs_next M M' R R' k l e h b =
      let g : graph_in M.graph nets weights m vw ≡ graph_in M₀.graph nets weights m vw =
      graph_kept (sides * 2) M₀.graph M.graph h.kept nets m weights vw (omega (arith, h.stands.site.behind.0)) in
      record {
        left = left_next _ _ most (pass_in M₀ R₀) k (pass_in M R) (pass_in M' R') l e h.left (b.pass ∙ ap (λ H. pass_turn H maxw (pass_in M R)) g);
        stands = b.stands;
        kept = kept_then (sides * 2) M₀.graph M.graph M'.graph h.kept b.kept;
      }

  enough : run_pass (graph_in M₀.graph nets weights m vw) maxw (pass_in M₀ R₀)
      ≡ until most (λ (t : Pass). t.over) (pass_turn (graph_in M₀.graph nets weights m vw) maxw) (pass_in M₀ R₀)
  unfolding graph_in
  enough = ap (λ (k : ℕ). until (k * k) (λ (t : Pass). t.over) (pass_turn (graph_in M₀.graph nets weights m vw) maxw) (pass_in M₀ R₀)) (sym (add-one (length vw)))

  pub runs_over : (M : Lists) (R : Run) (k : ℕ) → R.over ≡ true → Runs M R k → Brings weights vw o₀ (λ H p. run_pass H maxw p) M₀ M R₀ R
  runs_over M R k e h = record { pass = left_stop _ _ most (pass_in M₀ R₀) k (pass_in M R) e h.left ∙ sym enough; stands = h.stands; kept = h.kept }

  pub runs_end : (M : Lists) (R : Run) (k : ℕ) → most ≤ k → Runs M R k → Brings weights vw o₀ (λ H p. run_pass H maxw p) M₀ M R₀ R
  runs_end M R k e h = record { pass = left_none _ _ most (pass_in M₀ R₀) k (pass_in M R) e h.left ∙ sym enough; stands = h.stands; kept = h.kept }

-- One move: the sides, the vertices that have moved, the sums, and the neighbours entered again. Assumes nothing.
use Rattle.std.specs.Prelude.{Bool, true, false, ◌||◌, cond, ◌≡◌, refl, List, ◌∷◌, ℕ, suc, ◌+◌, ◌-◌, ◌*◌, ◌/◌, ◌≤◌, ◌<◌, eqb, Float, get_or, set}
use Rattle.std.proofs.Math.Bool.{or_comm}
use Rattle.std.proofs.Math.Path.{sym, ap}
use Rattle.std.proofs.Common.{◌∙◌, subst, arith, ne_eqb, length-set, get_or-set_same, get_or-set_other}
use Rattle.std.proofs.Math.Decide.{ℕ_discrete}
use Rattle.std.proofs.Math.Dec.{ltb}
use Rattle.std.proofs.Math.ListN.{length}
use Rattle.spec.specs.Lists.{memb, keep, range}
use Rattle.spec.specs.Floats.{zero_float}
use Rattle.spec.specs.Hypergraph.{Hypergraph, Sides, fold_over, all_pins, nets_at, moved}
use Rattle.spec.specs.Fm.{Queue, Gains, Pass, entered_again, counted, after_move}
use Rattle.laws.specs.Booleans.{clash}
use Rattle.laws.specs.ListLaws.{kept_few}
use Rattle.slots.specs.Slots.{held, with_set, held_with}
use Rattle.spec.specs.Draws.{Words}
use Rattle.partition.specs.Layout.{graph_in}
use Rattle.queue.specs.Queues.{queue_of}
use Rattle.partition.specs.Layout.{place}
use Rattle.fm.specs.Again.{Stamped, Under}
use Rattle.fm.specs.Neighbours.{NeighboursAgain}
use Rattle.moves.specs.Kept.{Kept, kept_then, kept_with, graph_kept, Site, site_kept}
use Rattle.moves.specs.Split.{Split, split_sides, split_with, Moved, sides_as}
use Rattle.moves.specs.Sums.{gains_of, Counted, backwards, back_length, back_more}
use Rattle.fmpass.specs.State.{Lists, lists, Run, run, moves_in, pass_in, Stands, Brings}
use Rattle.fmpass.specs.Fresh.{Fresh, all_fresh, count_more}

-- v moves, is counted with its key, and its neighbours are entered again
abbrev pub made_move : Float → ℕ → Hypergraph → Pass → Pass
made_move maxw v G p = after_move G maxw v p.queue (moved G v p.sides) (counted v (get_or p.queue.keys v zero_float) p.gains)

abbrev after_as : Hypergraph → ℕ → Queue → Sides → Gains → Bool → Pass
after_as G v q S g b =
    record { sides = S; queue = cond b q (fold_over (entered_again G S.part g.moves) (all_pins (nets_at G v)) q); gains = g; over = b }

module _ (nets vertices sides m : ℕ) (vw : List Float) (M : Lists) (R : Run) (h : Stands (place nets vertices sides m (length vw)) M R)
    (v : ℕ) (b : v < length vw) (free : memb v (moves_in M R) ≡ false) where
  few : length vw ≤ 128
  few = h.site.mesh.few.1

  -- there is room for one more
  pub one_left : R.count < length vw
  one_left = omega (arith, count_more (moves_in M R) v (length vw) b free, h.once, kept_few (λ u. memb u (v ∷ moves_in M R)) (length vw))

  pub count_low : R.count < 65536
  count_low = omega (arith, one_left, few)

  pub stamps_low : Stamped 1073741824 M.stamps
  stamps_low u = omega (arith, h.low u, one_left, few)

  module _ (ws₁ ws₂ part₁ moves₁ : List ℕ) (loads₁ : List Float)
      (em : Moved M.graph ws₁ sides vw v (sides_as M.part M.loads) (sides_as part₁ loads₁))
      (ew : ws₂ ≡ with_set ws₁ 2 (sides + 2) (λ j. held ws₁ 2 (sides + 2) j || eqb j v))
      (el : moves₁ ≡ set M.moves R.count v) where
    pub made_kept : Kept (sides * 2) M.graph ws₂
    made_kept =
        kept_then (sides * 2) M.graph ws₁ ws₂ em.kept
        (subst (Kept (sides * 2) ws₁) (sym ew) (kept_with (sides * 2) ws₁ (sides + 2) _ (omega arith)))

    pub made_site : Site ws₂ (place nets vertices sides m (length vw))
    made_site = site_kept M.graph ws₂ (place nets vertices sides m (length vw)) h.site made_kept

    pub made_split : Split ws₂ sides (length vw) part₁
    made_split = subst (λ w. Split w sides (length vw) part₁) (sym ew) (split_with ws₁ sides (length vw) part₁ (sides + 2) _ few (omega arith) em.split)

    made_moves : backwards moves₁ (R.count + 1) ≡ v ∷ moves_in M R
    made_moves = ap (λ l. backwards l (R.count + 1)) el ∙ back_more M.moves R.count v (omega (arith, one_left, h.long.3))

    pub made_locks : (u : ℕ) → u < length vw → memb u (backwards moves₁ (R.count + 1)) ≡ held ws₂ 2 (sides + 2) u
    made_locks u c =
        ap (memb u) made_moves ∙ or_comm (eqb u v) (memb u (moves_in M R))
        ∙ ap (λ t. t || eqb u v) (h.locks u c ∙ sym (em.others u (omega (arith, few))))
        ∙ sym (ap (λ w. held w 2 (sides + 2) u) ew ∙ held_with ws₁ 2 (sides + 2) _ u (omega (arith, em.kept.long, h.site.behind.2)) (omega (arith, few)))

    made_once : length (keep (λ u. memb u (backwards moves₁ (R.count + 1))) (range (length vw))) ≡ R.count + 1
    made_once =
        let e : suc R.count ≡ R.count + 1 = omega arith in
        ap (λ l. length (keep (λ u. memb u l) (range (length vw)))) made_moves ∙ count_more (moves_in M R) v (length vw) b free ∙ ap suc h.once ∙ e

    made_under : Under (length vw) (R.count + 1) moves₁
    made_under k c =
        elim (ℕ_discrete k R.count) [
          | yes e ↦ rw (e, el) (rw (get_or-set_same M.moves R.count v 0 (omega (arith, one_left, h.long.3))) b)
          | no f ↦ rw el (rw (get_or-set_other M.moves R.count k v 0 f) (h.under k (omega (arith, f))))
        ]

    -- what stands after the move, with a queue in which none that has moved waits
    pub made_stands : (keys : List Float) (stamps waiting : List ℕ) (sum best : Float) (count peak : ℕ) (words : Words) (over : Bool) → count ≡ R.count + 1
        → ((u : ℕ) → eqb (get_or waiting u 0) 1 ≡ true → memb u (backwards moves₁ (R.count + 1)) ≡ false) → Stamped (R.count * 32768 + 32768) stamps
        → (length keys ≡ length vw) × (length stamps ≡ length vw) × (length waiting ≡ length vw)
        → Stands (place nets vertices sides m (length vw)) (lists ws₂ part₁ loads₁ keys stamps waiting moves₁) (run count sum best peak words over)
    made_stands keys stamps waiting sum best count peak words over ec fresh low long =
        subst (λ (c : ℕ). Stands (place nets vertices sides m (length vw)) (lists ws₂ part₁ loads₁ keys stamps waiting moves₁) (run c sum best peak words over)) (sym ec)
        (record {
          site = made_site;
          split = made_split;
          locks = made_locks;
          fresh = fresh;
          once = made_once;
          low = λ u. omega (arith, low u);
          under = made_under;
          long = (long.0, long.1, long.2, omega (arith, h.long.3, ap length el, length-set M.moves R.count v));
        })

    module _ (off : eqb (get_or M.waiting v 0) 1 ≡ false) where
      made_fresh : (u : ℕ) → eqb (get_or M.waiting u 0) 1 ≡ true → memb u (backwards moves₁ (R.count + 1)) ≡ false
      made_fresh u w =
          ap (memb u) made_moves
          ∙ ap (λ t. t || memb u (moves_in M R)) (ne_eqb u v (λ e. clash w (ap (λ (z : ℕ). eqb (get_or M.waiting z 0) 1) e ∙ off)))
          ∙ h.fresh u w

      module _ (weights : List ℕ) (maxw key sum best : Float) (count peak : ℕ) (past : Bool)
          (ek : key ≡ get_or M.keys v zero_float) (ec : count ≡ R.count + 1)
          (eg : Counted R.count R.sum R.best R.peak key sum best peak)
          (ep : past ≡ ltb (50 + length vw / 4) (count - peak)) where
        abbrev G : Hypergraph
        G = graph_in M.graph nets weights m vw

        abbrev queue : Queue
        queue = queue_of M.keys M.stamps M.waiting R.words

        abbrev gains : Gains
        gains = gains_of (backwards moves₁ (R.count + 1)) sum best peak

        made_gains : counted v (get_or M.keys v zero_float) (gains_of (moves_in M R) R.sum R.best R.peak) ≡ gains
        made_gains =
            ap (λ (x : Float). counted v x (gains_of (moves_in M R) R.sum R.best R.peak)) (sym ek)
            ∙ sym (eg v (moves_in M R) (back_length M.moves R.count)) ∙ ap (λ l. gains_of l sum best peak) (sym made_moves)

        made_sides : moved G v (sides_as M.part M.loads) ≡ sides_as part₁ loads₁
        unfolding graph_in
        made_sides = sym (em.move G refl)

        made_past : ltb (50 + length G.weights / 4) (length (backwards moves₁ (R.count + 1)) - peak) ≡ past
        unfolding graph_in
        made_past = ap (λ (k : ℕ). ltb (50 + length vw / 4) (k - peak)) (back_length moves₁ (R.count + 1) ∙ sym ec) ∙ sym ep

        made_after : made_move maxw v G (pass_in M R) ≡ after_as G v queue (sides_as part₁ loads₁) gains past
        made_after = (λ i. after_move G maxw v queue (made_sides i) (made_gains i)) ∙ ap (after_as G v queue (sides_as part₁ loads₁) gains) made_past

        -- PAST THE LIMIT
        pub made_over : past ≡ true
            → Brings weights vw (place nets vertices sides m (length vw)) (made_move maxw v) M
            (lists ws₂ part₁ loads₁ M.keys M.stamps M.waiting moves₁) R (run count sum best peak R.words true)
        made_over e =
            record {
              pass = (λ i. record { sides = sides_as part₁ loads₁; queue = queue_of M.keys M.stamps M.waiting R.words; gains = gains_of (backwards moves₁ (ec i)) sum best peak; over = true })
                  ∙ sym (made_after ∙ ap (after_as G v queue (sides_as part₁ loads₁) gains) e);
              stands = made_stands M.keys M.stamps M.waiting sum best count peak R.words true ec made_fresh (λ u. omega (arith, h.low u)) (h.long.0, h.long.1, h.long.2);
              kept = made_kept;
            }

        -- THE NEIGHBOURS ARE ENTERED AGAIN
        module _ (keys : List Float) (stamps waiting : List ℕ) (words : Words)
            (nb : NeighboursAgain ws₂ (place nets vertices sides m (length vw)) weights (sides + 2) v (queue_of M.keys M.stamps M.waiting R.words) (queue_of keys stamps waiting words)) where
          abbrev again : List ℕ → Queue
          again moves = fold_over (entered_again G part₁ moves) (all_pins (nets_at G v)) queue

          entered : queue_of keys stamps waiting words ≡ again (backwards moves₁ (R.count + 1))
          entered =
              let g : graph_in ws₂ nets weights m vw ≡ G = graph_kept (sides * 2) M.graph ws₂ made_kept nets m weights vw (omega (arith, h.site.behind.0)) in
              nb.queue vw (backwards moves₁ (R.count + 1)) made_locks
              ∙ (λ i. fold_over (entered_again (g i) (split_sides ws₂ sides (length vw) part₁ made_split i) (backwards moves₁ (R.count + 1))) (all_pins (nets_at (g i) v))
              (queue_of M.keys M.stamps M.waiting R.words))

          pub made_on : past ≡ false → (length keys ≡ length vw) × (length stamps ≡ length vw) × (length waiting ≡ length vw)
              → Brings weights vw (place nets vertices sides m (length vw)) (made_move maxw v) M
              (lists ws₂ part₁ loads₁ keys stamps waiting moves₁) R (run count sum best peak words false)
          made_on e long =
              record {
                pass = (λ i. record { sides = sides_as part₁ loads₁; queue = entered i; gains = gains_of (backwards moves₁ (ec i)) sum best peak; over = false })
                    ∙ sym (made_after ∙ ap (after_as G v queue (sides_as part₁ loads₁) gains) e);
                stands = made_stands keys stamps waiting sum best count peak words false ec
                    (subst (Fresh (backwards moves₁ (R.count + 1))) (sym entered) (all_fresh G part₁ (backwards moves₁ (R.count + 1)) (all_pins (nets_at G v)) queue made_fresh))
                    (nb.stamps (R.count * 32768) h.low) long;
                kept = made_kept;
              }

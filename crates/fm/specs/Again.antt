-- Vertices that have not moved are entered again. Assumes nothing.
use Rattle.std.specs.Prelude.{true, false, cond, ◌≡◌, refl, List, [], ℕ, suc, ◌+◌, ◌≤◌, ◌<◌, Float, length, get_or, set, take}
use Rattle.std.proofs.Common.{sym, ap, ◌∙◌, subst, arith, add-one, length-set, get_or-set_same, get_or-set_other}
use Rattle.std.proofs.Math.Decide.{ℕ_discrete, dec_le}
use Rattle.std.proofs.Math.ListN.{get_or-eq_default}
use Rattle.spec.specs.Lists.{memb}
use Rattle.spec.specs.Hypergraph.{fold_over}
use Rattle.spec.specs.Fm.{Queue, entered_again}
use Rattle.slots.specs.Slots.{held}
use Rattle.partition.specs.Folds.{fold_next}
use Rattle.partition.specs.Layout.{graph_in, sides_in}
use Rattle.partition.specs.declared.place.Place.{Place}
use Rattle.queue.specs.Enters.{entered_in, Entered}

-- no stamp is above k
abbrev pub Stamped : ℕ → List ℕ → Type 0
Stamped k stamps = (u : ℕ) → get_or stamps u 0 ≤ k

-- the first i members of a list are below n
abbrev pub Under : ℕ → ℕ → List ℕ → Type 0
Under n i l = (k : ℕ) → k < i → get_or l k 0 < n

stamped_set : (k u s : ℕ) (stamps : List ℕ) → Stamped k stamps → s ≤ suc k → Stamped (suc k) (set stamps u s)
stamped_set k u s stamps h b w =
    elim (ℕ_discrete w u) [
      | yes e ↦ elim (dec_le (suc w) (length stamps)) [
        | yes l ↦ rw e (rw (get_or-set_same stamps u s 0 (omega arith)) b)
        | no l ↦ rw (get_or-eq_default (set stamps u s) 0 {n = w} (omega (arith, length-set stamps u s))) (omega arith)
      ]
      | no f ↦ rw (get_or-set_other stamps u w s 0 f) (omega (arith, h w))
    ]

module _ (ws : List ℕ) (o : Place) (weights : List ℕ) (locked : ℕ) where
  abbrev pub again_in : List Float → List ℕ → ℕ → Queue → Queue
  again_in vw moves u q = entered_again (graph_in ws o.nets weights o.net_count vw) (sides_in ws o.sides o.vertex_count) moves u q

  -- the slot of locked vertices holds those that have moved
  abbrev pub Locks : List ℕ → Type 0
  Locks moves = (u : ℕ) → u < o.vertex_count → memb u moves ≡ held ws 2 locked u

  -- the queue after u was entered again, unless it has moved, whatever the moves were
  pub record Again (u : ℕ) (q r : Queue) : Type 0 where
    pub queue : (vw : List Float) (moves : List ℕ) → Locks moves → r ≡ again_in vw moves u q
    pub stamps : (k : ℕ) → Stamped k q.stamps → Stamped (suc k) r.stamps

  pub again_locked : (u : ℕ) (q : Queue) → u < o.vertex_count → held ws 2 locked u ≡ true → Again u q q
  again_locked u q b e =
      record {
        queue = λ vw moves l. sym (ap (λ t. cond t q (entered_in ws o weights vw (suc (get_or q.stamps u 0)) u q)) (l u b ∙ e));
        stamps = λ k h w. omega (arith, h w);
      }

  pub again_entered : (u s : ℕ) (q r : Queue) → u < o.vertex_count → held ws 2 locked u ≡ false → s ≡ get_or q.stamps u 0 + 1 → Entered ws o weights s u q r → Again u q r
  again_entered u s q r b e f p =
      record {
        queue = λ vw moves l. p vw ∙ ap (λ t. entered_in ws o weights vw t u q) (f ∙ add-one (get_or q.stamps u 0))
            ∙ sym (ap (λ t. cond t q (entered_in ws o weights vw (suc (get_or q.stamps u 0)) u q)) (l u b ∙ e));
        stamps = λ k h. rw (ap (λ (z : Queue). z.stamps) (p [])) (stamped_set k u s q.stamps h (omega (arith, h u)));
      }

  -- ---- a list of vertices ----

  pub record AllAgain (l : List ℕ) (i : ℕ) (q r : Queue) : Type 0 where
    pub queue : (vw : List Float) (moves : List ℕ) → Locks moves → r ≡ fold_over (again_in vw moves) (take i l) q
    pub stamps : (k : ℕ) → Stamped k q.stamps → Stamped (k + i) r.stamps

  pub none_again : (l : List ℕ) (q : Queue) → AllAgain l 0 q q
  none_again l q = record { queue = λ vw moves h. refl; stamps = λ k h w. omega (arith, h w) }

  pub one_again : (l : List ℕ) (i : ℕ) (q g r : Queue) → i < length l → AllAgain l i q g → Again (get_or l i 0) g r → AllAgain l (i + 1) q r
  one_again l i q g r b p e =
      record {
        queue = λ vw moves h. fold_next (again_in vw moves) l q g r i b (p.queue vw moves h) (e.queue vw moves h);
        stamps = λ k h w. omega (arith, e.stamps (k + i) (p.stamps k h) w);
      }

  pub same_again : (l : List ℕ) (i : ℕ) (q g r : Queue) (u : ℕ) → i < length l → u ≡ get_or l i 0 → AllAgain l i q g → Again u g r → AllAgain l (i + 1) q r
  same_again l i q g r u b e p a = one_again l i q g r b p (subst (λ (z : ℕ). Again z g r) e a)

  pub all_again : (l : List ℕ) (i k : ℕ) (q r : Queue) → i ≡ k → AllAgain l i q r → AllAgain l k q r
  all_again l i k q r e p = subst (λ (z : ℕ). AllAgain l z q r) e p

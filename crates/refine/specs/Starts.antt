-- The start of a pass: every vertex is entered, and none has moved. Assumes nothing.
use Rattle.std.specs.Prelude.{false, ◌≡◌, refl, List, [], ◌∷◌, ◌++◌, ℕ, zero, suc, ◌+◌, ◌*◌, ◌≤◌, Float, length, get_or, set, take, replicate, map, cond}
use Rattle.std.proofs.Common.{sym, ap, ◌∙◌, subst, arith, length-set, length-append, get_or-set_same, get_or-set_other, take_at}
use Rattle.std.proofs.Math.Decide.{ℕ_discrete, dec_le}
use Rattle.std.proofs.Math.ListN.{get_or-eq_default}
use Rattle.spec.specs.Lists.{range}
use Rattle.spec.specs.Floats.{zero_float}
use Rattle.spec.specs.Draws.{Words}
use Rattle.spec.specs.Memory.{filled}
use Rattle.spec.specs.Hypergraph.{Hypergraph, fold_over}
use Rattle.spec.specs.Fm.{Queue, entered_as, first_queue}
use Rattle.laws.specs.ListLaws.{keep_none_from}
use Rattle.cells.specs.Cells.{filled_length}
use Rattle.slots.specs.Slots.{held, with_set, held_with}
use Rattle.partition.specs.Layout.{graph_in, sides_in}
use Rattle.queue.specs.declared.entries.Entry.{Entry}
use Rattle.queue.specs.Queues.{no_entry, keys_of, stamps_of, waits_of, queue_in, long_as}
use Rattle.partition.specs.declared.place.Place.{Place}
use Rattle.partition.specs.Layout.{place, Placed}
use Rattle.queue.specs.Enters.{AllEntered}
use Rattle.fm.specs.Again.{Stamped}
use Rattle.moves.specs.Kept.{Kept, kept_with, graph_kept, Site, site_kept}
use Rattle.moves.specs.Split.{Split, split_sides, split_with, site_placed}
use Rattle.fmpass.specs.State.{lists, run, Stands}

-- ---- stamps of 0 ----

zero_set : (l : List ℕ) (v : ℕ) → Stamped 0 l → Stamped 0 (set l v 0)
zero_set l v h u =
    elim (ℕ_discrete u v) [
      | yes e ↦ elim (dec_le (length l) v) [
        | yes b ↦ rw e (rw (get_or-eq_default (set l v 0) 0 {n = v} (omega (arith, length-set l v 0))) (omega arith))
        | no b ↦ rw e (rw (get_or-set_same l v 0 0 (omega arith)) (omega arith))
      ]
      | no f ↦ rw (get_or-set_other l v u 0 0 f) (h u)
    ]

zero_all : (G : Hypergraph) (part l : List ℕ) (q : Queue) → Stamped 0 q.stamps → Stamped 0 (fold_over (entered_as G part 0) l q).stamps
zero_all G part [] q h = h
zero_all G part (v ∷ l) q h = zero_all G part l (entered_as G part 0 v q) (zero_set q.stamps v h)

pub zero_filled : (n : ℕ) → Stamped 0 (filled n 0)
unfolding filled
zero_filled n u = zeros n u
  where
    zeros : (n u : ℕ) → get_or (replicate n 0) u 0 ≤ 0
    zeros zero u = omega arith
    zeros (suc n) zero = omega arith
    zeros (suc n) (suc u) = zeros n u

-- ---- the start ----

pub record Starts (ws ws' : List ℕ) (weights : List ℕ) (vw : List Float) (o : Place) (part : List ℕ) (w w' : Words) (l : List Entry) : Type 0 where
  pub queue : queue_in l w' ≡ first_queue (graph_in ws o.nets weights o.net_count vw) part w
  pub stands : (loads : List Float) (moves : List ℕ) → o.vertex_count ≤ length moves
      → Stands o (lists ws' part loads (keys_of l) (stamps_of l) (waits_of l) moves) (run 0 zero_float zero_float 0 w' false)
  pub kept : Kept (o.sides * 2) ws ws'

-- entries that are none
each : {A B : Type 0} (f : A → B) (n : ℕ) (x : A) → map f (replicate n x) ≡ replicate n (f x)
each f zero x = refl
each f (suc n) x = ap (λ l. f x ∷ l) (each f n x)

keys_none : (n : ℕ) → keys_of (filled n no_entry) ≡ filled n zero_float
unfolding filled
keys_none n = each (λ (x : Entry). x.key) n no_entry

stamps_none : (n : ℕ) → stamps_of (filled n no_entry) ≡ filled n 0
unfolding filled
stamps_none n = each (λ (x : Entry). x.stamp) n no_entry

waits_none : (n : ℕ) → waits_of (filled n no_entry) ≡ filled n 0
unfolding filled
waits_none n = each (λ (x : Entry). cond x.waits 1 0) n no_entry

module _ (ws ws₁ : List ℕ) (weights : List ℕ) (vw : List Float) (nets vertices sides m : ℕ) (part : List ℕ) (h : Site ws (place nets vertices sides m (length vw)))
    (s : Split ws sides (length vw) part) (e : ws₁ ≡ with_set ws 2 (sides + 2) (λ j. false)) where
  abbrev o : Place
  o = place nets vertices sides m (length vw)

  first_kept : Kept (sides * 2) ws ws₁
  first_kept = subst (Kept (sides * 2) ws) (sym e) (kept_with (sides * 2) ws (sides + 2) _ (omega arith))

  first_split : Split ws₁ sides (length vw) part
  first_split = subst (λ w. Split w sides (length vw) part) (sym e) (split_with ws sides (length vw) part (sides + 2) _ h.mesh.few.1 (omega arith) s)

  first_site : Site ws₁ o
  first_site = site_kept ws ws₁ o h first_kept

  pub first_placed : Placed ws₁ o
  first_placed = site_placed ws₁ o part first_site first_split

  module _ (l₁ l : List Entry) (w w' : Words) (e₁ : l₁ ≡ filled (length vw) no_entry) (long : length l ≡ length l₁)
      (q : AllEntered ws₁ o weights (length vw) (queue_in l₁ w) (queue_in l w')) where
    keys_first : keys_of l₁ ≡ filled (length vw) zero_float
    keys_first = ap keys_of e₁ ∙ keys_none (length vw)

    stamps_first : stamps_of l₁ ≡ filled (length vw) 0
    stamps_first = ap stamps_of e₁ ∙ stamps_none (length vw)

    waits_first : waits_of l₁ ≡ filled (length vw) 0
    waits_first = ap waits_of e₁ ∙ waits_none (length vw)

    all_entered : queue_in l w' ≡ first_queue (graph_in ws nets weights m vw) part w
    unfolding graph_in filled
    all_entered =
        let g : graph_in ws₁ nets weights m vw ≡ graph_in ws nets weights m vw = graph_kept (sides * 2) ws ws₁ first_kept nets m weights vw (omega (arith, h.behind.0)) in
        q vw ∙ (λ i. fold_over (entered_as (g i) (split_sides ws₁ sides (length vw) part first_split i) 0) (range (length vw)) (record { keys = keys_first i; stamps = stamps_first i; waiting = waits_first i; words = w }))

    -- EVERY VERTEX IS ENTERED
    pub starts : Starts ws ws₁ weights vw o part w w' l
    starts =
        record {
          queue = all_entered;
          stands = λ loads moves r. record {
            site = first_site;
            split = first_split;
            locks = λ u b. sym (ap (λ w. held w 2 (sides + 2) u) e ∙ held_with ws 2 (sides + 2) _ u (omega (arith, h.behind.2)) (omega (arith, h.mesh.few.1)));
            fresh = λ u w. refl;
            once = ap length (keep_none_from (λ u. false) 0 (length vw) (λ j lo hi. refl));
            low = subst (λ (x : Queue). Stamped 0 x.stamps) (sym (q vw))
                (zero_all (graph_in ws₁ nets weights m vw) (sides_in ws₁ sides (length vw)) (range (length vw)) (queue_in l₁ w)
                (subst (Stamped 0) (sym stamps_first) (zero_filled (length vw))));
            under = λ k b. absurd (omega arith);
            long = (let z = long_as l₁ l (length vw) long (ap length keys_first ∙ filled_length (length vw) zero_float) in (z.0, z.1, z.2, r));
          };
          kept = first_kept;
        }

-- a list whose front was lent has room for it again
pub front_room : {A : Type 0} (n : ℕ) (l r : List A) → length l ≡ n → n ≤ length (l ++ r)
front_room n l r e = omega (arith, length-append l r, e)

-- the same of entries whose front was lent, and is lent again
pub starts_in : (ws ws' weights : List ℕ) (vw : List Float) (o : Place) (part : List ℕ) (w w' : Words) (l rest : List Entry)
    → Starts ws ws' weights vw o part w w' l → length l ≡ length vw → Starts ws ws' weights vw o part w w' (take (length vw) (l ++ rest))
starts_in ws ws' weights vw o part w w' l rest h k = subst (Starts ws ws' weights vw o part w w') (sym (take_at l rest (length vw) k)) h

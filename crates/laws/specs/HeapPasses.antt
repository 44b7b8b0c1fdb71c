-- LAW B7, through a whole pass. Assumes nothing.
use Rattle.std.specs.Prelude.{◌≡◌, refl, Bool, List, [], ◌∷◌, ℕ, zero, suc, ◌+◌, ◌-◌, ◌≤◌, ◌<◌, ltb, Float, length, get_or, replicate, Option, None, Some}
use Rattle.std.proofs.Common.{subst, arith, ltb-true, ltb-false}
use Rattle.std.proofs.lemmas.List.{length-replicate, get_or-replicate}
use Rattle.std.proofs.Math.ListN.{get_or-eq_default}
use Rattle.spec.specs.Lists.{memb, keep, from}
use Rattle.spec.specs.Members.{All}
use Rattle.spec.specs.Floats.{zero_float}
use Rattle.spec.specs.Draws.{unit_draw}
use Rattle.spec.specs.Hypergraph.{fold_over, Net, Hypergraph, vertex_count, nets_at, all_pins, moved}
use Rattle.spec.specs.Fm.{Entry, Queue, taken_out, key_of, gain, entered_as, entered_again, Gains, counted, Pass, move_limit, fits_in, turn_of}
use Rattle.spec.specs.FmClaims.{Gives, nothing, stale, HeapOf, Heaped, pushed, HeapStarts, pushed_again, heap_after, HeapTurns}
use Rattle.laws.specs.Booleans.{by_cases}
use Rattle.laws.specs.MemberLaws.{all_append, all_map}
use Rattle.laws.specs.HeapLaws.{push, heap_gives, heap_taken, heap_locked, heap_pushed, passed_over, out_now}

-- ---- the start ----

module _ (G : Hypergraph) (part : List ℕ) (n : ℕ) where
  -- the vertices from k on are pushed, and none of them is in the heap
  all_pushed : (j k : ℕ) (h : Heaped) → k + j ≡ n → HeapOf n [] h.queue h.heap → All (λ e. e.vertex < k) h.heap
      → HeapOf n [] (fold_over (entered_as G part 0) (from k j) h.queue) (fold_over (pushed G part 0) (from k j) h).heap
  all_pushed zero k h e H b = H
  all_pushed (suc j) k h e H b =
      all_pushed j (suc k) (pushed G part 0 k h) (omega arith)
      (push n [] h.queue h.heap (key_of (gain G part k) (unit_draw h.queue.words).value) 0 k (unit_draw h.queue.words).words H (omega arith) refl
      (all_map _ _ h.heap (λ e l z. absurd (omega arith)) b))
      (omega arith, all_map _ _ h.heap (λ e l. omega arith) b)

pub heap_starts : HeapStarts
heap_starts G part ws =
    let n = vertex_count G in
    all_pushed G part n n 0 (record { queue = record { keys = replicate n zero_float; stamps = replicate n 0; waiting = replicate n 0; words = ws }; heap = [] })
    (omega arith)
    (record {
      present = λ v. rw (none_yet n v);
      older = tt;
      sized = (length-replicate n zero_float, length-replicate n 0, length-replicate n 0);
    })
    tt
  where
    none_yet : (n v : ℕ) → ◌≡◌ {A = ℕ} (get_or (replicate n 0) v 0) 0
    none_yet n v =
        by_cases (ltb v n) (λ k. get_or-replicate n v 0 0 (ltb-true v n k))
        (λ k. get_or-eq_default (replicate n 0) 0 (let h : length (replicate {A = ℕ} n 0) ≤ v = omega (arith, ltb-false v n k, length-replicate {A = ℕ} n 0) in h))

-- ---- a turn ----

emptied : (n : ℕ) (moves : List ℕ) (q : Queue) (heap : List Entry) (rest : List Entry) → HeapOf n moves q heap → Gives moves q heap None rest → HeapOf n moves q rest
emptied n moves q _ _ H nothing = H
emptied n moves q _ _ H (stale heap e rest o last c l g) = emptied n moves q rest last (passed_over n moves q heap e rest H c l) g

-- the pins are entered again
module _ (G : Hypergraph) (part : List ℕ) (n : ℕ) (moves : List ℕ) where
  again : (u : ℕ) (h : Heaped) → u < n → HeapOf n moves h.queue h.heap
      → HeapOf n moves (pushed_again G part moves u h).queue (pushed_again G part moves u h).heap
  again u h k H = by_cases (memb u moves) (λ m. rw m H) (λ m. rw m (heap_pushed G part n moves h u H k m))

  same_queue : (u : ℕ) (h : Heaped) → (pushed_again G part moves u h).queue ≡ entered_again G part moves u h.queue
  same_queue u h = by_cases (memb u moves) (λ m. rw m) (λ m. rw m)

  all_again : (l : List ℕ) (h : Heaped) → All (λ u. u < n) l → HeapOf n moves h.queue h.heap
      → HeapOf n moves (fold_over (entered_again G part moves) l h.queue) (fold_over (pushed_again G part moves) l h).heap
  all_again [] h b H = H
  all_again (u ∷ l) h b H =
      rw (← same_queue u h) (all_again l (pushed_again G part moves u h) b.1 (again u h b.0 H))

pub pins_in : (n : ℕ) (p : Net → Bool) (l : List Net) → All (λ e. All (λ u. u < n) e.pins) l → All (λ u. u < n) (all_pins (keep p l))
pins_in n p [] h = tt
pins_in n p (e ∷ l) h = by_cases (p e) (λ k. rw k (all_append _ e.pins (all_pins (keep p l)) h.0 (pins_in n p l h.1))) (λ k. rw k (pins_in n p l h.1))

module _ (G : Hypergraph) (maxw : Float) (p : Pass) (heap : List Entry) (rest : List Entry) (pins : All (λ e. All (λ u. u < vertex_count G) e.pins) G.nets)
    (H : HeapOf (vertex_count G) p.gains.moves p.queue heap) where
  turn_keeps : (o : Option Entry) → Gives p.gains.moves p.queue heap o rest
      → HeapOf (vertex_count G) (turn_of G maxw o p).gains.moves (turn_of G maxw o p).queue (heap_after G maxw o rest p)
  turn_keeps None g = emptied (vertex_count G) p.gains.moves p.queue heap rest H g
  turn_keeps (Some e) g =
      let v = e.vertex in
      let n = vertex_count G in
      let q : Queue = taken_out v p.queue in
      let taken : HeapOf n p.gains.moves q rest = heap_taken n p.gains.moves p.queue heap e rest H g in
      let locked : HeapOf n (v ∷ p.gains.moves) q rest = heap_locked n p.gains.moves q rest v taken (out_now p.queue v) in
      let gains : Gains = counted v e.key p.gains in
      by_cases (fits_in G maxw v p.sides)
      (λ k. rw k (by_cases (ltb (move_limit G maxw) (length gains.moves - gains.best_at)) (λ z. rw z locked)
      (λ z. rw z (all_again G (moved G v p.sides).part n (v ∷ p.gains.moves) (all_pins (nets_at G v)) (record { queue = q; heap = rest })
      (pins_in n (λ e. memb v e.pins) G.nets pins) locked))))
      (λ k. rw k taken)

pub heap_turns : HeapTurns
heap_turns G maxw p heap o rest pins H num g =
    subst (λ x. HeapOf (vertex_count G) (turn_of G maxw x p).gains.moves (turn_of G maxw x p).queue (heap_after G maxw o rest p))
    (heap_gives (vertex_count G) p.gains.moves p.queue heap o rest H num g) (turn_keeps G maxw p heap rest pins H o g)

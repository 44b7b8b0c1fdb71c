-- What is claimed of gains, and of the heap that the Rust keeps entries in. Definitions only; proofs in GainLaws and HeapLaws of laws.
-- Assumes nothing.
use Rattle.std.specs.Prelude.{Bool, true, false, not, ◌&&◌, cond, List, [], ◌∷◌, ◌++◌, map, ◌≡◌, ℕ, suc, ◌^◌, ◌≤◌, ◌<◌, eqb, Float, length, get_or, set, replicate, Option, None, Some}
use Rattle.std.proofs.Math.IntN.{sub_ℕ}
use Rattle.std.specs.Float.{binary64}
use Rattle.std.specs.Float.Ieee.{of_int, eq}
use Rattle.spec.specs.Lists.{memb, keep, sum_of, range}
use Rattle.spec.specs.Members.{All}
use Rattle.spec.specs.Network.{repeats}
use Rattle.spec.specs.Floats.{zero_float, whole_float}
use Rattle.spec.specs.Draws.{Words, unit_of}
use Rattle.spec.specs.Hypergraph.{fold_over, Net, Hypergraph, vertex_count, nets_at, all_pins, side_of, other_side, is_cut}
use Rattle.spec.specs.Fm.{gain, key_of, Entry, above, Queue, waits, entry_of, largest, taken_out, entered_as, first_queue, Pass, fits_in, taken_off, pass_turn}

-- nets with weights in whole bits
pub record WholeNet : Type 0 where
  pub pins : List ℕ
  pub bits : ℕ

abbrev pub as_net : WholeNet → Net
as_net e = record { pins = e.pins; weight = whole_float e.bits }

abbrev pub whole_graph : List Float → List WholeNet → Hypergraph
whole_graph weights nets = record { weights = weights; nets = map as_net nets }

-- the partition after v has moved
abbrev pub after_move_of : List ℕ → ℕ → List ℕ
after_move_of part v = set part v (other_side (side_of part v))

-- the bits of the nets that the move makes uncut, and of those that it newly cuts
abbrev pub made_uncut : List WholeNet → List ℕ → ℕ → ℕ
made_uncut nets part v = sum_of (λ e. e.bits) (keep (λ e. is_cut part e.pins && not (is_cut (after_move_of part v) e.pins)) nets)

abbrev pub newly_cut : List WholeNet → List ℕ → ℕ → ℕ
newly_cut nets part v = sum_of (λ e. e.bits) (keep (λ e. not (is_cut part e.pins) && is_cut (after_move_of part v) e.pins) nets)

-- a net has two pins or more, none twice, each a vertex on side 0 or 1
pub record LawfulNet (part : List ℕ) (e : WholeNet) : Type 0 where
  pub two : 2 ≤ length e.pins
  pub once : repeats e.pins ≡ false
  pub sided : All (λ u. (u < length part) × (side_of part u < 2)) e.pins

-- LAW B3. "The gain of a move (Fiduccia and Mattheyses): weight of nets it makes uncut less weight of nets it newly cuts." In f64 it is that
-- whole number.
abbrev pub GainIs : Type 0
GainIs = (weights : List Float) (nets : List WholeNet) (part : List ℕ) (v : ℕ) → v < length part → side_of part v < 2 → All (LawfulNet part) nets
    → sum_of (λ e. e.bits) nets ≤ 2 ^ 52
    → gain (whole_graph weights nets) part v ≡ of_int binary64 (sub_ℕ (made_uncut nets part v) (newly_cut nets part v))

-- ---- the Rust's heap: the entries that were pushed and have not come off ----

-- e comes off, one that none comes before
pub record ComesOff (heap : List Entry) (e : Entry) (rest : List Entry) : Type 0 where
  pub before : List Entry
  pub behind : List Entry
  pub whole : heap ≡ before ++ (e ∷ behind)
  pub others : rest ≡ before ++ behind
  pub first : All (λ f. above f e ≡ false) heap

-- an entry is live unless its vertex is locked, having moved, or its stamp is not its vertex's
abbrev pub live : List ℕ → Queue → Entry → Bool
live moves q e = not (memb e.vertex moves) && eqb e.stamp (get_or q.stamps e.vertex 0)

-- Entries come off, and stale ones are passed over: the first live one, if there is one, and the heap after it.
pub data Gives (moves : List ℕ) (q : Queue) : List Entry → Option Entry → List Entry → Type 0 where
  nothing : Gives moves q [] None []
  alive : (heap : List Entry) (e : Entry) (rest : List Entry) → ComesOff heap e rest → live moves q e ≡ true → Gives moves q heap (Some e) rest
  stale : (heap : List Entry) (e : Entry) (rest : List Entry) (o : Option Entry) (last : List Entry) → ComesOff heap e rest → live moves q e ≡ false
      → Gives moves q rest o last → Gives moves q heap o last

-- The heap is a queue's: of each vertex that waits its entry is live, once, and nothing else is; no stamp is later than its vertex's.
pub record HeapOf (n : ℕ) (moves : List ℕ) (q : Queue) (heap : List Entry) : Type 0 where
  pub present : (v : ℕ) → keep (λ e. eqb e.vertex v && live moves q e) heap ≡ cond (waits q v) (entry_of q v ∷ []) []
  pub older : All (λ e. e.stamp ≤ get_or q.stamps e.vertex 0) heap
  pub sized : (length q.keys ≡ n) × (length q.stamps ≡ n) × (length q.waiting ≡ n)

-- the key is no NaN
abbrev pub Numbered : Entry → Type 0
Numbered e = eq e.key e.key ≡ true

-- LAW B7. The largest live entry is what a heap would give, whichever way the heap is kept.
abbrev pub HeapGives : Type 0
HeapGives = (n : ℕ) (moves : List ℕ) (q : Queue) (heap : List Entry) (o : Option Entry) (rest : List Entry) → HeapOf n moves q heap
    → ((v : ℕ) → waits q v ≡ true → Numbered (entry_of q v)) → Gives moves q heap o rest → o ≡ largest n q

-- with nets as in LAW B3 no key is a NaN,
abbrev pub KeysNumbered : Type 0
KeysNumbered = (weights : List Float) (nets : List WholeNet) (part : List ℕ) (v : ℕ) → v < length part → side_of part v < 2 → All (LawfulNet part) nets
    → sum_of (λ e. e.bits) nets ≤ 2 ^ 52 → (w : ℕ)
    → let k = key_of (gain (whole_graph weights nets) part v) (unit_of w) in eq k k ≡ true

-- and where none is, the heap gives something or runs empty
abbrev pub HeapRuns : Type 0
HeapRuns = (moves : List ℕ) (q : Queue) (heap : List Entry) → All Numbered heap → (o : Option Entry) × (rest : List Entry) × Gives moves q heap o rest

-- The heap is still the queue's after an entry was given (its vertex waits no more, whether it moves or not), after a vertex that does not
-- wait is locked, and after one that is not locked is entered again.
abbrev pub HeapTaken : Type 0
HeapTaken = (n : ℕ) (moves : List ℕ) (q : Queue) (heap : List Entry) (e : Entry) (rest : List Entry) → HeapOf n moves q heap → Gives moves q heap (Some e) rest
    → HeapOf n moves (taken_out e.vertex q) rest

abbrev pub HeapLocked : Type 0
HeapLocked = (n : ℕ) (moves : List ℕ) (q : Queue) (heap : List Entry) (v : ℕ) → HeapOf n moves q heap → waits q v ≡ false → HeapOf n (v ∷ moves) q heap

-- a queue with its heap
pub record Heaped : Type 0 where
  pub queue : Queue
  pub heap : List Entry

abbrev pub pushed : Hypergraph → List ℕ → ℕ → ℕ → Heaped → Heaped
pushed G part stamp v h =
    let q = entered_as G part stamp v h.queue in
    record { queue = q; heap = entry_of q v ∷ h.heap }

abbrev pub pushed_next : Hypergraph → List ℕ → ℕ → Heaped → Heaped
pushed_next G part u h = pushed G part (suc (get_or h.queue.stamps u 0)) u h

abbrev pub HeapPushed : Type 0
HeapPushed = (G : Hypergraph) (part : List ℕ) (n : ℕ) (moves : List ℕ) (h : Heaped) (v : ℕ) → HeapOf n moves h.queue h.heap → v < n → memb v moves ≡ false
    → HeapOf n moves (pushed_next G part v h).queue (pushed_next G part v h).heap

-- So it is through a whole pass: at its start each vertex is pushed with the stamp 0,
abbrev pub start_heap : Hypergraph → List ℕ → Words → Heaped
start_heap G part ws =
    let n = vertex_count G in
    fold_over (pushed G part 0) (range n)
    (record { queue = record { keys = replicate n zero_float; stamps = replicate n 0; waiting = replicate n 0; words = ws }; heap = [] })

abbrev pub HeapStarts : Type 0
HeapStarts = (G : Hypergraph) (part : List ℕ) (ws : Words) → HeapOf (vertex_count G) [] (first_queue G part ws) (start_heap G part ws).heap

-- and at each turn an entry comes off, and if its vertex moves and the pass is not over, each pin that is not locked is pushed.
abbrev pub pushed_again : Hypergraph → List ℕ → List ℕ → ℕ → Heaped → Heaped
pushed_again G part moves u h =
    let again = pushed_next G part u h in
    cond (memb u moves) h again

module _ (G : Hypergraph) (maxw : Float) where
  abbrev pub heap_after : Option Entry → List Entry → Pass → List Entry
  heap_after None rest p = rest
  heap_after (Some e) rest p =
      let t = taken_off G maxw e p in
      let from : Heaped = record { queue = taken_out e.vertex p.queue; heap = rest } in
      let again = (fold_over (pushed_again G t.sides.part t.gains.moves) (all_pins (nets_at G e.vertex)) from).heap in
      cond (fits_in G maxw e.vertex p.sides && not t.over) again rest

abbrev pub HeapTurns : Type 0
HeapTurns = (G : Hypergraph) (maxw : Float) (p : Pass) (heap : List Entry) (o : Option Entry) (rest : List Entry)
    → All (λ e. All (λ u. u < vertex_count G) e.pins) G.nets → HeapOf (vertex_count G) p.gains.moves p.queue heap
    → ((v : ℕ) → waits p.queue v ≡ true → Numbered (entry_of p.queue v)) → Gives p.gains.moves p.queue heap o rest
    → HeapOf (vertex_count G) (pass_turn G maxw p).gains.moves (pass_turn G maxw p).queue (heap_after G maxw o rest p)

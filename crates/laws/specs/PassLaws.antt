-- LAW B10: laws B3 and B7 hold at every pass that bisection of an accepted network comes to. Assumes nothing.
use Rattle.std.specs.Prelude.{◌≡◌, refl, true, not, ◌&&◌, List, [], ◌∷◌, map, ℕ, suc, ◌-◌, ◌*◌, ◌^◌, ◌≤◌, ◌<◌, ltb, Float, length, get_or, replicate, Option, None, Some}
use Rattle.std.proofs.Common.{sym, ap, ◌∙◌, subst, arith}
use Rattle.std.specs.Float.Ieee.{eq}
use Rattle.spec.specs.Lists.{memb, range, sum_of}
use Rattle.spec.specs.Members.{All}
use Rattle.spec.specs.Floats.{zero_float}
use Rattle.spec.specs.Draws.{Words, draw, unit_of}
use Rattle.spec.specs.Hypergraph.{until, fold_over, Net, Hypergraph, vertex_count, nets_at, all_pins, Sides, sides_of, moved}
use Rattle.spec.specs.Fm.{gain, key_of, Entry, Queue, waits, entry_of, largest, taken_out, entered_as, first_queue, entered_again, Gains, counted, Pass, move_limit, fits_in, after_move, taken_off, turn_of, pass_turn, run_pass, start_pass, end_pass, Refined}
use Rattle.spec.specs.Bisection.{multilevel}
use Rattle.spec.specs.FmClaims.{WholeNet, as_net, LawfulNet, Gives, nothing, alive, stale, Numbered, HeapOf, Heaped, pushed, start_heap, pushed_again, heap_after}
use Rattle.spec.specs.GraphClaims.{Pinned, Lawful, Sided, GainWhole, Starts, growth, brought, Comes, first, turn, next, PassSound, TurnsCome, PassesCome, PassesSound}
use Rattle.laws.specs.MemberLaws.{all_map}
use Rattle.laws.specs.ListLaws.{below_range}
use Rattle.laws.specs.GainLaws.{gain_is}
use Rattle.laws.specs.KeyNumbers.{keys_numbered}
use Rattle.laws.specs.HeapLaws.{rest_all, heap_gives, heap_runs}
use Rattle.laws.specs.HeapPasses.{heap_starts, heap_turns, pins_in}
use Rattle.laws.specs.GraphLaws.{reached_lawful}
use Rattle.laws.specs.SideLaws.{cond_has, until_has, fold_has, all_set, all_replicate, all_at, side_low, moved_sided, turn_of_lem, turn_sided, end_sided, grown_sided, placed_sided, multilevel_sided}

-- ---- gains ----

module _ (G : Hypergraph) (h : Lawful G) where
  abbrev n : ℕ
  n = vertex_count G

  module _ (part : List ℕ) (s : Sided n part) where
    all_lawful : All (LawfulNet part) h.whole
    all_lawful =
        all_map (Pinned n) (LawfulNet part) h.whole (λ e k.
        record {
          two = k.two;
          once = k.once;
          sided = all_map (λ u. u < n) _ e.pins (λ u b. (subst (λ m. u < m) (sym s.long) b, side_low n part u s)) k.below;
        })
        h.pinned

    few_bits : sum_of (λ (e : WholeNet). e.bits) h.whole ≤ 2 ^ 52
    few_bits = omega (arith, h.few)

    as_whole : (v : ℕ) → gain G part v ≡ gain (record { weights = G.weights; nets = map as_net h.whole }) part v
    as_whole v = ap (λ (nets : List Net). gain (record { weights = G.weights; nets = nets }) part v) h.same

    key_numbered : (v w : ℕ) → v < n → eq (key_of (gain G part v) (unit_of w)) (key_of (gain G part v) (unit_of w)) ≡ true
    key_numbered v w b =
        rw (as_whole v) (keys_numbered G.weights h.whole part v (subst (λ m. v < m) (sym s.long) b) (side_low n part v s) all_lawful few_bits w)

pub gain_whole : GainWhole
gain_whole G h part s v b =
    as_whole G h part s v
    ∙ gain_is G.weights h.whole part v (subst (λ m. v < m) (sym s.long) b) (side_low (vertex_count G) part v s) (all_lawful G h part s) (few_bits G h part s)

-- ---- keys ----

abbrev Sure : Float → Type 0
Sure x = eq x x ≡ true

zero_sure : Sure zero_float
unfolding eq
zero_sure = refl

-- no key is a NaN; nor is one in the heap
abbrev KeysOk : Queue → Type 0
KeysOk q = All Sure q.keys

abbrev BothOk : Heaped → Type 0
BothOk x = KeysOk x.queue × All Numbered x.heap

module _ (G : Hypergraph) (h : Lawful G) (part : List ℕ) (s : Sided (vertex_count G) part) where
  entered_ok : (stamp v : ℕ) (q : Queue) → v < vertex_count G → KeysOk q → KeysOk (entered_as G part stamp v q)
  entered_ok stamp v q b k = all_set Sure q.keys v _ k (key_numbered G h part s v (draw q.words).value b)

  pushed_ok : (stamp v : ℕ) (x : Heaped) → v < vertex_count G → BothOk x → BothOk (pushed G part stamp v x)
  pushed_ok stamp v x b k =
      let e = entered_ok stamp v x.queue b k.0 in
      (e, (all_at Sure (entered_as G part stamp v x.queue).keys v zero_float e zero_sure, k.1))

  first_ok : (ws : Words) → KeysOk (first_queue G part ws)
  first_ok ws =
      let n = vertex_count G in
      fold_has KeysOk (λ u. u < n) (entered_as G part 0) (λ v q b k. entered_ok 0 v q b k) (range n)
      (record { keys = replicate n zero_float; stamps = replicate n 0; waiting = replicate n 0; words = ws })
      (below_range n) (all_replicate Sure n zero_float zero_sure)

  start_ok : (ws : Words) → All Numbered (start_heap G part ws).heap
  start_ok ws =
      let n = vertex_count G in
      (fold_has BothOk (λ u. u < n) (pushed G part 0) (λ v x b k. pushed_ok 0 v x b k) (range n)
      (record { queue = record { keys = replicate n zero_float; stamps = replicate n 0; waiting = replicate n 0; words = ws }; heap = [] })
      (below_range n) (all_replicate Sure n zero_float zero_sure, tt)).1

  module _ (moves : List ℕ) where
    again_ok : (u : ℕ) (q : Queue) → u < vertex_count G → KeysOk q → KeysOk (entered_again G part moves u q)
    again_ok u q b k = cond_has KeysOk (memb u moves) q _ k (entered_ok (suc (get_or q.stamps u 0)) u q b k)

    repushed_ok : (u : ℕ) (x : Heaped) → u < vertex_count G → BothOk x → BothOk (pushed_again G part moves u x)
    repushed_ok u x b k = cond_has BothOk (memb u moves) x _ k (pushed_ok (suc (get_or x.queue.stamps u 0)) u x b k)

-- ---- a turn ----

-- what is left of a heap
gives_rest : (moves : List ℕ) (q : Queue) (heap : List Entry) (o : Option Entry) (rest : List Entry) → All Numbered heap → Gives moves q heap o rest → All Numbered rest
gives_rest moves q _ _ _ k nothing = tt
gives_rest moves q _ _ _ k (alive heap e rest c l) = rest_all Numbered c k
gives_rest moves q _ _ _ k (stale heap e rest o last c l g) = gives_rest moves q rest o last (rest_all Numbered c k) g

module _ (G : Hypergraph) (h : Lawful G) where
  all_pins_lem : All (λ (e : Net). All (λ u. u < vertex_count G) e.pins) G.nets
  all_pins_lem = subst (All (λ (e : Net). All (λ u. u < vertex_count G) e.pins)) (sym h.same) (mapped h.whole h.pinned)
    where
      mapped : (l : List WholeNet) → All (Pinned (vertex_count G)) l → All (λ (e : Net). All (λ u. u < vertex_count G) e.pins) (map as_net l)
      mapped [] k = tt
      mapped (e ∷ l) k = (k.0.below, mapped l k.1)

  pins_at : (v : ℕ) → All (λ u. u < vertex_count G) (all_pins (nets_at G v))
  pins_at v = pins_in (vertex_count G) (λ e. memb v e.pins) G.nets all_pins_lem

  module _ (maxw : Float) (p : Pass) (s : Sided (vertex_count G) p.sides.part) where
    turn_keys : (o : Option Entry) → KeysOk p.queue → KeysOk (turn_of G maxw o p).queue
    turn_keys None k = k
    turn_keys (Some e) k =
        let v = e.vertex in
        let S = moved G v p.sides in
        let g : Gains = counted v e.key p.gains in
        let q : Queue = taken_out v p.queue in
        cond_has (λ (t : Pass). KeysOk t.queue) (fits_in G maxw v p.sides) (after_move G maxw v q S g) _
        (cond_has KeysOk (ltb (move_limit G maxw) (length g.moves - g.best_at)) q _ k
        (fold_has KeysOk (λ u. u < vertex_count G) (entered_again G S.part g.moves)
        (λ u x b y. again_ok G h S.part (moved_sided G (vertex_count G) v p.sides s) g.moves u x b y) (all_pins (nets_at G v)) q (pins_at v) k))
        k

    turn_heap : (o : Option Entry) (rest : List Entry) → KeysOk p.queue → All Numbered rest → All Numbered (heap_after G maxw o rest p)
    turn_heap None rest k a = a
    turn_heap (Some e) rest k a =
        let v = e.vertex in
        let t = taken_off G maxw e p in
        let from : Heaped = record { queue = taken_out v p.queue; heap = rest } in
        cond_has (All Numbered) (fits_in G maxw v p.sides && not t.over) (fold_over (pushed_again G t.sides.part t.gains.moves) (all_pins (nets_at G v)) from).heap rest
        (fold_has BothOk (λ u. u < vertex_count G) (pushed_again G t.sides.part t.gains.moves)
        (λ u x b y. repushed_ok G h t.sides.part (turn_of_lem G (vertex_count G) maxw (Some e) p s) t.gains.moves u x b y)
        (all_pins (nets_at G v)) from (pins_at v) (k, a)).1
        a

-- ---- every pass ----

module _ (G : Hypergraph) (h : Lawful G) (maxw : Float) where
  -- what a pass keeps
  record Keeps (p : Pass) (heap : List Entry) : Type 0 where
    sided : Sided (vertex_count G) p.sides.part
    keys : KeysOk p.queue
    numbered : All Numbered heap
    heap_of : HeapOf (vertex_count G) p.gains.moves p.queue heap

  keys_at : (q : Queue) → KeysOk q → (v : ℕ) → waits q v ≡ true → Numbered (entry_of q v)
  keys_at q k v w = all_at Sure q.keys v zero_float k zero_sure

  starts_keeps : (S : Sides) (ws : Words) → Sided (vertex_count G) S.part → Keeps (start_pass G maxw S ws) (start_heap G S.part ws).heap
  starts_keeps S ws s =
      record { sided = s; keys = first_ok G h S.part s ws; numbered = start_ok G h S.part s ws; heap_of = heap_starts G S.part ws }

  turn_keeps : (p : Pass) (heap : List Entry) (o : Option Entry) (rest : List Entry) → Keeps p heap → Gives p.gains.moves p.queue heap o rest
      → Keeps (pass_turn G maxw p) (heap_after G maxw o rest p)
  turn_keeps p heap o rest k g =
      record {
        sided = turn_sided G (vertex_count G) maxw p k.sided;
        keys = turn_keys G h maxw p k.sided (largest (vertex_count G) p.queue) k.keys;
        numbered = turn_heap G h maxw p k.sided o rest k.keys (gives_rest p.gains.moves p.queue heap o rest k.numbered g);
        heap_of = heap_turns G maxw p heap o rest (all_pins_lem G h) k.heap_of (keys_at p.queue k.keys) g;
      }

  comes_keeps : (part : List ℕ) → Sided (vertex_count G) part → (p : Pass) (heap : List Entry) → Comes G maxw part p heap → Keeps p heap
  comes_keeps part s _ _ (first ws) = starts_keeps (sides_of G part) ws s
  comes_keeps part s _ _ (turn p heap o rest c g) = turn_keeps p heap o rest (comes_keeps part s p heap c) g
  comes_keeps part s _ _ (next p heap c) =
      starts_keeps (end_pass G maxw p).sides (end_pass G maxw p).words (end_sided G (vertex_count G) maxw p (comes_keeps part s p heap c).sided)

  keeps_sound : (p : Pass) (heap : List Entry) → Keeps p heap → PassSound G h p heap
  keeps_sound p heap k =
      record {
        sided = k.sided;
        gains = gain_whole G h p.sides.part k.sided;
        keys = keys_at p.queue k.keys;
        numbered = k.numbered;
        heap_of = k.heap_of;
        gives = heap_runs p.gains.moves p.queue heap k.numbered;
        largest_given = λ o rest g. heap_gives (vertex_count G) p.gains.moves p.queue heap o rest k.heap_of (keys_at p.queue k.keys) g;
      }

-- ---- turn after turn, pass after pass ----

module _ (G : Hypergraph) (h : Lawful G) (maxw : Float) (part : List ℕ) (s : Sided (vertex_count G) part) where
  -- with some heap
  abbrev Met : Pass → Type 0
  Met p = (heap : List Entry) × Comes G maxw part p heap

  turn_met : (p : Pass) → Met p → Met (pass_turn G maxw p)
  turn_met p m =
      let (heap, c) = m in
      let (o, rest, g) = heap_runs p.gains.moves p.queue heap (comes_keeps G h maxw part s p heap c).numbered in
      (heap_after G maxw o rest p, turn p heap o rest c g)

  turns_met : (k : ℕ) (p : Pass) → Met p → Met (until k (λ t. t.over) (pass_turn G maxw) p)
  turns_met k p m = until_has Met k (λ t. t.over) (pass_turn G maxw) turn_met p m

  pass_met : (r : Refined) → Met (start_pass G maxw r.sides r.words)
      → let p = run_pass G maxw (start_pass G maxw r.sides r.words) in Met (start_pass G maxw (end_pass G maxw p).sides (end_pass G maxw p).words)
  pass_met r m =
      let p = run_pass G maxw (start_pass G maxw r.sides r.words) in
      let (heap, c) = turns_met (suc (vertex_count G) * suc (vertex_count G)) (start_pass G maxw r.sides r.words) m in
      ((start_heap G (end_pass G maxw p).sides.part (end_pass G maxw p).words).heap, next p heap c)

pub turns_come : TurnsCome
turns_come G h maxw part s p heap c k = turns_met G h maxw part s k p (heap, c)

pub passes_come : PassesCome
passes_come G h maxw part s k ws =
    until_has (λ (r : Refined). Met G h maxw part s (start_pass G maxw r.sides r.words)) k (λ x. not x.better)
    (λ x. end_pass G maxw (run_pass G maxw (start_pass G maxw x.sides x.words))) (pass_met G h maxw part s)
    (record { sides = sides_of G part; better = true; words = ws }) ((start_heap G part ws).heap, first ws)

-- ---- from a network ----

starts_sided : (G : Hypergraph) (part : List ℕ) → Starts G part → Sided (vertex_count G) part
starts_sided G _ (growth ws) = grown_sided G ws
starts_sided G _ (brought most ws l e fuel maxw later) =
    placed_sided G most ws l (multilevel fuel maxw l.graph later).value e (multilevel_sided fuel maxw l.graph later)

-- LAW B10
pub passes_sound : PassesSound
passes_sound N a G r part s maxw p heap c =
    let h = reached_lawful N a G r in
    (h, keeps_sound G h maxw p heap (comes_keeps G h maxw part (starts_sided G part s) p heap c))

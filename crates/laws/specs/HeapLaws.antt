-- LAW B7: the largest live entry is what the Rust's heap would give. Assumes nothing.
use Rattle.std.specs.Prelude.{◌≡◌, refl, ◌≢◌, Bool, true, false, not, ◌&&◌, cond, List, [], ◌∷◌, ◌++◌, ℕ, zero, suc, ◌≤◌, ◌<◌, eqb, ltb, Float, length, get_or, set, Option, None, Some}
use Rattle.std.proofs.Common.{sym, ap, ap₂, ◌∙◌, subst, arith, length-append, length-set, get_or-set_same, get_or-set_other, eqb-true, ne_eqb, ltb-true, ltb-false}
use Rattle.std.proofs.Math.Bool.{and-false}
use Rattle.std.specs.Float.Ieee.{eq}
use Rattle.std.proofs.Math.ListN.{get_or-eq_default}
use Rattle.std.proofs.lemmas.Bool.{eqb-false}
use Rattle.spec.specs.Lists.{memb, keep, range}
use Rattle.spec.specs.Members.{All, In, here, there}
use Rattle.spec.specs.Floats.{zero_float}
use Rattle.spec.specs.Draws.{Words, unit_draw}
use Rattle.spec.specs.Hypergraph.{fold_over}
use Rattle.spec.specs.Fm.{Entry, above, Queue, waits, entry_of, or_above, offered, taken_out, key_of, gain}
use Rattle.spec.specs.FmClaims.{ComesOff, live, Gives, nothing, alive, stale, HeapOf, Numbered, HeapGives, HeapRuns, HeapTaken, HeapLocked, HeapPushed}
use Rattle.laws.specs.Booleans.{by_cases, clash, and_right, and_both, eqb_self, eqb_sym}
use Rattle.laws.specs.MemberLaws.{all_append, all_parts, all_map, all_both, all_in, all_intro}
use Rattle.laws.specs.ListLaws.{memb-from, keep_append}
use Rattle.laws.specs.Lexicographic.{Order, not_before_self, by_number, then_by, order_of}
use Rattle.laws.specs.FloatOrder.{by_float}

-- ---- the order of entries ----

abbrev Counted : Type 0
Counted = (e : Entry) × Numbered e

abbrev tie_entry : Counted → Counted → Bool
tie_entry x y = eq x.0.key y.0.key && (eqb x.0.stamp y.0.stamp && eqb x.0.vertex y.0.vertex)

entry_order : Order {A = Counted} (λ x y. above x.0 y.0) tie_entry
entry_order =
    then_by (order_of {B = Counted} (λ x. (x.0.key, x.1)) by_float)
    (then_by (by_number (λ x y. y.0.stamp) _ (λ x y. eqb_sym x.0.stamp y.0.stamp) (λ x y z. omega arith))
    (by_number (λ x y. y.0.vertex) _ (λ x y. eqb_sym x.0.vertex y.0.vertex) (λ x y z. omega arith)))

-- two entries that tie are of one vertex
tie_vertex : (e f : Entry) → Numbered e → Numbered f → above e f ≡ false → above f e ≡ false → e.vertex ≡ f.vertex
tie_vertex e f p q a b =
    let t = entry_order.ties (e, p) (f, q) a b in
    eqb-true e.vertex f.vertex (and_right (eqb e.stamp f.stamp) _ (and_right (eq e.key f.key) _ t))

-- ---- members kept ----

module _ {A : Type 0} where
  keep_same : (p q : A → Bool) (l : List A) → All (λ x. p x ≡ q x) l → keep p l ≡ keep q l
  keep_same p q [] h = refl
  keep_same p q (x ∷ l) h = ap₂ (λ b (k : List A). cond b (x ∷ k) k) h.0 (keep_same p q l h.1)

  keep_none : (p : A → Bool) (l : List A) → All (λ x. p x ≡ false) l → keep p l ≡ []
  keep_none p [] h = refl
  keep_none p (x ∷ l) h = rw h.0 (keep_none p l h.1)

  kept : (p : A → Bool) (l : List A) → All (λ x. In x l × (p x ≡ true)) (keep p l)
  kept p [] = tt
  kept p (x ∷ l) =
      let rest : All (λ y. In y (x ∷ l) × (p y ≡ true)) (keep p l) = all_map _ _ (keep p l) (λ y h. (there h.0, h.1)) (kept p l) in
      by_cases (p x) (λ e. rw e ((here refl, e), rest)) (λ e. rw e rest)

  in_keep : (p : A → Bool) (x : A) (l : List A) → In x l → p x ≡ true → In x (keep p l)
  in_keep p x [] i h = elim i [ ]
  in_keep p x (y ∷ l) (here e) h = rw (ap p (sym e) ∙ h) (here e)
  in_keep p x (y ∷ l) (there i) h = by_cases (p y) (λ e. rw e (there (in_keep p x l i h))) (λ e. rw e (in_keep p x l i h))

-- the live entries of v
abbrev live_of : List ℕ → Queue → ℕ → Entry → Bool
live_of moves q v e = eqb e.vertex v && live moves q e

module _ (n : ℕ) (moves : List ℕ) (q : Queue) (heap : List Entry) (H : HeapOf n moves q heap) where
  -- a vertex that waits has its entry in the heap
  waits_in : (v : ℕ) → waits q v ≡ true → In (entry_of q v) heap
  waits_in v w = (all_in _ (entry_of q v) (keep (live_of moves q v) heap) (kept (live_of moves q v) heap) (rw (H.present v, w) (here refl))).0

  -- a live entry is that of its vertex, which waits
  live_waits : (e : Entry) → In e heap → live moves q e ≡ true → (waits q e.vertex ≡ true) × (e ≡ entry_of q e.vertex)
  live_waits e i l = go (waits q e.vertex) refl (rw (H.present e.vertex) at (in_keep (live_of moves q e.vertex) e heap i (and_both _ _ (eqb_self e.vertex) l)))
    where
      go : (b : Bool) → waits q e.vertex ≡ b → In e (cond b (entry_of q e.vertex ∷ []) []) → (waits q e.vertex ≡ true) × (e ≡ entry_of q e.vertex)
      go true w i = (w, all_in (λ x. x ≡ entry_of q e.vertex) e (entry_of q e.vertex ∷ []) (refl, tt) i)
      go false w i = all_in (λ x. (waits q e.vertex ≡ true) × (e ≡ entry_of q e.vertex)) e [] tt i

  waits_below : (v : ℕ) → waits q v ≡ true → v < n
  waits_below v w =
      by_cases (ltb v n) (ltb-true v n)
      (λ k. clash w (rw (get_or-eq_default q.waiting 0 (let z : length q.waiting ≤ v = omega (arith, ltb-false v n k, H.sized.2) in z))))

-- ---- the scan ----

-- an entry that none of those that wait comes before is what the scan finds
module _ (q : Queue) (num : (v : ℕ) → waits q v ≡ true → Numbered (entry_of q v)) (v : ℕ) (w : waits q v ≡ true)
    (top : (u : ℕ) → waits q u ≡ true → above (entry_of q u) (entry_of q v) ≡ false) where
  stays_first : (l : List ℕ) → fold_over (offered q) l (Some (entry_of q v)) ≡ Some (entry_of q v)
  stays_first [] = refl
  stays_first (u ∷ l) = ap (λ o. fold_over (offered q) l o) same ∙ stays_first l
    where
      same : offered q u (Some (entry_of q v)) ≡ Some (entry_of q v)
      same = by_cases (waits q u) (λ e. rw (e, top u e)) (λ e. rw e)

  -- what is found so far is the entry of a vertex that waits
  abbrev Found : Option Entry → Type 0
  Found None = Unit {0}
  Found (Some b) = (u : ℕ) × (waits q u ≡ true) × (b ≡ entry_of q u)

  found_next : (u : ℕ) (o : Option Entry) → Found o → Found (offered q u o)
  found_next u o h = by_cases (waits q u) (λ e. rw e (go e o h)) (λ e. rw e h)
    where
      go : waits q u ≡ true → (o : Option Entry) → Found o → Found (Some (or_above o (entry_of q u)))
      go e None h = (u, e, refl)
      go e (Some c) h = by_cases (above (entry_of q u) c) (λ k. rw k (u, e, refl)) (λ k. rw k h)

  first_found : (o : Option Entry) → Found o → offered q v o ≡ Some (entry_of q v)
  first_found None h = rw w
  first_found (Some c) h =
      let (u, e, p) = h in
      rw w (by_cases (above (entry_of q v) c) (λ k. rw k) (λ k. rw k (ap Some
      (p ∙ ap (entry_of q) (tie_vertex (entry_of q u) (entry_of q v) (num u e) (num v w) (top u e) (ap (above (entry_of q v)) (sym p) ∙ k))))))

  scan_finds : (l : List ℕ) (o : Option Entry) → Found o → memb v l ≡ true → fold_over (offered q) l o ≡ Some (entry_of q v)
  scan_finds [] o h m = clash m refl
  scan_finds (u ∷ l) o h m =
      by_cases (eqb v u)
      (λ e. rw (← eqb-true v u e) (ap (λ o. fold_over (offered q) l o) (first_found o h) ∙ stays_first l))
      (λ e. scan_finds l (offered q u o) (found_next u o h) (rw e at m))

none_found : (q : Queue) → ((v : ℕ) → waits q v ≡ false) → (l : List ℕ) → fold_over (offered q) l None ≡ None
none_found q h [] = refl
none_found q h (u ∷ l) = rw (h u) (none_found q h l)

-- ---- entries come off ----

-- a vertex that is taken out waits no more
pub out_now : (q : Queue) (v : ℕ) → waits (taken_out v q) v ≡ false
out_now q v =
    by_cases (ltb v (length q.waiting))
    (λ k. rw (get_or-set_same q.waiting v 0 0 (ltb-true v (length q.waiting) k)))
    (λ k. let h : length (set q.waiting v 0) ≤ v = omega (arith, ltb-false v (length q.waiting) k, length-set q.waiting v 0) in
    rw (get_or-eq_default (set q.waiting v 0) 0 h))

off_in : {heap : List Entry} {e : Entry} {rest : List Entry} → ComesOff heap e rest → In e heap
off_in {heap} {e} {rest} c = rw c.whole (in_middle c.before)
  where
    in_middle : (a : List Entry) → In e (a ++ (e ∷ c.behind))
    in_middle [] = here refl
    in_middle (x ∷ a) = there (in_middle a)

pub rest_all : (P : Entry → Type 0) {heap : List Entry} {e : Entry} {rest : List Entry} → ComesOff heap e rest → All P heap → All P rest
rest_all P {heap} {e} {rest} c h =
    let (a, b) = all_parts P c.before (e ∷ c.behind) (subst (All P) c.whole h) in
    subst (All P) (sym c.others) (all_append P c.before c.behind a b.1)

module _ (n : ℕ) (moves : List ℕ) (q : Queue) (heap : List Entry) (e : Entry) (rest : List Entry) (H : HeapOf n moves q heap) (c : ComesOff heap e rest) where
  -- those of another vertex, or none that is live
  kept_others : (v : ℕ) → live_of moves q v e ≡ false → keep (live_of moves q v) rest ≡ keep (live_of moves q v) heap
  kept_others v l =
      ap (keep (live_of moves q v)) c.others ∙ keep_append (live_of moves q v) c.before c.behind
      ∙ sym (ap (keep (live_of moves q v)) c.whole ∙ keep_append (live_of moves q v) c.before (e ∷ c.behind)
      ∙ ap (λ b. keep (live_of moves q v) c.before ++ cond b (e ∷ keep (live_of moves q v) c.behind) (keep (live_of moves q v) c.behind)) l)

  pub passed_over : live moves q e ≡ false → HeapOf n moves q rest
  passed_over l =
      record {
        present = λ v. kept_others v (ap (λ b. eqb e.vertex v && b) l ∙ and-false (eqb e.vertex v)) ∙ H.present v;
        older = rest_all _ c H.older;
        sized = H.sized;
      }

  -- the entry was its vertex's only live one
  none_left : live moves q e ≡ true → keep (live_of moves q e.vertex) rest ≡ []
  none_left l =
      let p : Entry → Bool = live_of moves q e.vertex in
      let t : p e ≡ true = and_both _ _ (eqb_self e.vertex) l in
      let whole : keep p c.before ++ (e ∷ keep p c.behind) ≡ entry_of q e.vertex ∷ [] =
      sym (ap (keep p) c.whole ∙ keep_append p c.before (e ∷ c.behind)
      ∙ ap (λ b. keep p c.before ++ cond b (e ∷ keep p c.behind) (keep p c.behind)) t)
      ∙ H.present e.vertex ∙ ap (λ b. cond b (entry_of q e.vertex ∷ []) []) (live_waits n moves q heap H e (off_in c) l).0 in
      ap (keep p) c.others ∙ keep_append p c.before c.behind ∙ only (keep p c.before) (keep p c.behind) (ap length whole)
    where
      only : (a b : List Entry) → length (a ++ (e ∷ b)) ≡ 1 → a ++ b ≡ []
      only [] [] h = refl
      only [] (y ∷ b) h = absurd (omega arith)
      only (x ∷ a) b h = absurd (omega (arith, length-append a (e ∷ b)))

  taken_off : live moves q e ≡ true → HeapOf n moves (taken_out e.vertex q) rest
  taken_off l =
      record {
        present = λ v. by_cases (eqb e.vertex v) (λ k. rw (← eqb-true e.vertex v k) same) (λ k. other v k);
        older = rest_all _ c H.older;
        sized = (H.sized.0, H.sized.1, length-set q.waiting e.vertex 0 ∙ H.sized.2);
      }
    where
      same : keep (live_of moves q e.vertex) rest ≡ cond (waits (taken_out e.vertex q) e.vertex) (entry_of q e.vertex ∷ []) []
      same = rw (out_now q e.vertex) (none_left l)

      other : (v : ℕ) → eqb e.vertex v ≡ false
          → keep (live_of moves q v) rest ≡ cond (waits (taken_out e.vertex q) v) (entry_of q v ∷ []) []
      other v k =
          rw (get_or-set_other q.waiting e.vertex v 0 0 (λ z. eqb-false e.vertex v k (sym z))) (kept_others v (ap (λ b. b && live moves q e) k) ∙ H.present v)

-- ---- the claims ----

pub heap_gives : HeapGives
heap_gives n moves q _ _ _ H num nothing = sym (none_found q none_waits (range n))
  where
    none_waits : (v : ℕ) → waits q v ≡ false
    none_waits v = by_cases (waits q v) (λ w. absurd (let z : 0 ≡ 1 = ap length (H.present v ∙ ap (λ b. cond b (entry_of q v ∷ []) []) w) in omega arith)) (λ w. w)
heap_gives n moves q _ _ _ H num (alive heap e rest c l) =
    let (w, p) = live_waits n moves q heap H e (off_in c) l in
    let f : (u : ℕ) → waits q u ≡ true → above (entry_of q u) (entry_of q e.vertex) ≡ false =
    λ u k. ap (above (entry_of q u)) (sym p) ∙ all_in (λ f. above f e ≡ false) (entry_of q u) heap c.first (waits_in n moves q heap H u k) in
    ap Some p ∙ sym (scan_finds q num e.vertex w f (range n) None tt (memb-from e.vertex 0 n (omega arith) (omega (arith, waits_below n moves q heap H e.vertex w))))
heap_gives n moves q _ _ _ H num (stale heap e rest' o last c l g) = heap_gives n moves q rest' o last (passed_over n moves q heap e rest' H c l) num g

pub heap_taken : HeapTaken
heap_taken n moves q _ _ _ H (alive heap e rest c l) = taken_off n moves q heap e rest H c l
heap_taken n moves q _ e _ H (stale heap f rest o last c l g) = heap_taken n moves q rest e last (passed_over n moves q heap f rest H c l) g

pub heap_locked : HeapLocked
heap_locked n moves q heap v H w =
    record {
      present = λ u. by_cases (eqb u v) (λ k. rw (eqb-true u v k) same) (λ k. other u k);
      older = H.older;
      sized = H.sized;
    }
  where
    same : keep (live_of (v ∷ moves) q v) heap ≡ cond (waits q v) (entry_of q v ∷ []) []
    same = rw w (keep_none (live_of (v ∷ moves) q v) heap (all_intro _ heap (λ e i. by_cases (eqb e.vertex v) (λ k. rw k) (λ k. rw k))))

    other : (u : ℕ) → eqb u v ≡ false → keep (live_of (v ∷ moves) q u) heap ≡ cond (waits q u) (entry_of q u ∷ []) []
    other u k =
        keep_same (live_of (v ∷ moves) q u) (live_of moves q u) heap
        (all_intro _ heap (λ e i. by_cases (eqb e.vertex u) (λ z. rw (z, ap (λ x. eqb x v) (eqb-true e.vertex u z) ∙ k)) (λ z. rw z)))
        ∙ H.present u

-- v is entered with a key and a stamp, one that is later than all of its entries'
module _ (n : ℕ) (moves : List ℕ) (q : Queue) (heap : List Entry) (key : Float) (stamp v : ℕ) (ws : Words) (H : HeapOf n moves q heap) (h : v < n) where
  abbrev pub entered : Queue
  entered = record { keys = set q.keys v key; stamps = set q.stamps v stamp; waiting = set q.waiting v 1; words = ws }

  stamp_now : get_or (set q.stamps v stamp) v 0 ≡ stamp
  stamp_now = get_or-set_same q.stamps v stamp 0 (omega (arith, H.sized.1))

  stamp_else : (u : ℕ) → eqb v u ≡ false → get_or (set q.stamps v stamp) u 0 ≡ get_or q.stamps u 0
  stamp_else u k = get_or-set_other q.stamps v u stamp 0 (λ z. eqb-false v u k (sym z))

  pub push : memb v moves ≡ false → All (λ e. e.vertex ≡ v → e.stamp < stamp) heap → HeapOf n moves entered (entry_of entered v ∷ heap)
  push m newer =
      record {
        present = λ u. by_cases (eqb v u) (λ k. subst (λ w. keep (live_of moves entered w) (entry_of entered v ∷ heap) ≡ cond (waits entered w) (entry_of entered w ∷ []) []) (eqb-true v u k) same) (λ k. other u k);
        older = (omega arith, all_map _ _ heap still_older (all_both _ _ heap newer H.older));
        sized =
            (length-set q.keys v key ∙ H.sized.0, length-set q.stamps v stamp ∙ H.sized.1, length-set q.waiting v 1 ∙ H.sized.2);
      }
    where
      still_older : (e : Entry) → (e.vertex ≡ v → e.stamp < stamp) × (e.stamp ≤ get_or q.stamps e.vertex 0)
          → e.stamp ≤ get_or (set q.stamps v stamp) e.vertex 0
      still_older e (a, b) =
          by_cases (eqb v e.vertex)
          (λ k. rw (← eqb-true v e.vertex k, stamp_now) (omega (arith, a (sym (eqb-true v e.vertex k)))))
          (λ k. rw (stamp_else e.vertex k) b)

      gone : (e : Entry) → (e.vertex ≡ v → e.stamp < stamp) → live_of moves entered v e ≡ false
      gone e a =
          by_cases (eqb e.vertex v)
          (λ k. let z : e.vertex ≡ v = eqb-true e.vertex v k in
          let s : eqb e.stamp (get_or (set q.stamps v stamp) e.vertex 0) ≡ false =
          rw (z, stamp_now) (ne_eqb e.stamp stamp (λ t. omega (arith, a z))) in
          rw (k, s) (and-false (not (memb e.vertex moves))))
          (λ k. rw k)

      same : keep (live_of moves entered v) (entry_of entered v ∷ heap) ≡ cond (waits entered v) (entry_of entered v ∷ []) []
      same =
          let l : live_of moves entered v (entry_of entered v) ≡ true = rw (eqb_self v, m, eqb_self (get_or (set q.stamps v stamp) v 0)) in
          ap₂ (λ b (k : List Entry). cond b (entry_of entered v ∷ k) k) l (keep_none (live_of moves entered v) heap (all_map _ _ heap gone newer))
          ∙ sym (ap (λ b. cond (eqb b 1) (entry_of entered v ∷ []) []) (get_or-set_same q.waiting v 1 0 (omega (arith, H.sized.2))))

      alike : (u : ℕ) → eqb v u ≡ false → (e : Entry) → In e heap → live_of moves entered u e ≡ live_of moves q u e
      alike u k e i =
          by_cases (eqb e.vertex u)
          (λ z. ap (λ s. eqb e.vertex u && (not (memb e.vertex moves) && eqb e.stamp s)) (stamp_else e.vertex (ap (eqb v) (eqb-true e.vertex u z) ∙ k)))
          (λ z. rw z)

      other : (u : ℕ) → eqb v u ≡ false → keep (live_of moves entered u) (entry_of entered v ∷ heap) ≡ cond (waits entered u) (entry_of entered u ∷ []) []
      other u k =
          rw k (keep_same (live_of moves entered u) (live_of moves q u) heap (all_intro _ heap (alike u k)) ∙ H.present u
          ∙ sym (unchanged u (λ z. eqb-false v u k (sym z))))
        where
          unchanged : (u : ℕ) → u ≢ v → cond (waits entered u) (entry_of entered u ∷ []) [] ≡ cond (waits q u) (entry_of q u ∷ []) []
          unchanged u z =
              rw (get_or-set_other q.keys v u key zero_float z, get_or-set_other q.stamps v u stamp 0 z, get_or-set_other q.waiting v u 1 0 z)

pub heap_pushed : HeapPushed
heap_pushed G part n moves h v H k m =
    push n moves h.queue h.heap (key_of (gain G part v) (unit_draw h.queue.words).value) (suc (get_or h.queue.stamps v 0)) v
    (unit_draw h.queue.words).words H k m
    (all_map _ _ h.heap (λ e o z. omega (arith, o, ap (λ x. get_or h.queue.stamps x 0) z)) H.older)

-- ---- a heap gives something ----

-- the entry that comes off
top_of : (x : Entry) (l : List Entry) → All Numbered (x ∷ l) → (e : Entry) × (rest : List Entry) × ComesOff (x ∷ l) e rest
top_of x [] h =
    (x, [], record { before = []; behind = []; whole = refl; others = refl; first = (not_before_self entry_order (x, h.0), tt) })
top_of x (y ∷ l) h =
    let (e, rest, c) = top_of y l h.1 in
    let p : Numbered e = all_in Numbered e (y ∷ l) h.1 (off_in c) in
    by_cases (above x e)
    (λ k. (
      x,
      y ∷ l,
      record {
        before = [];
        behind = y ∷ l;
        whole = refl;
        others = refl;
        first = (
          not_before_self entry_order (x, h.0),
          all_map _ _ (y ∷ l) (λ f (a, b). entry_order.trans (f, b) (e, p) (x, h.0) a (entry_order.asym (x, h.0) (e, p) k)) (all_both _ _ (y ∷ l) c.first h.1),
        );
      },
    ))
    (λ k. (
      e,
      x ∷ rest,
      record {
        before = x ∷ c.before;
        behind = c.behind;
        whole = ap (λ (l : List Entry). x ∷ l) c.whole;
        others = ap (λ (l : List Entry). x ∷ l) c.others;
        first = (k, c.first);
      },
    ))

heap_runs_in : (k : ℕ) (moves : List ℕ) (q : Queue) (heap : List Entry) → All Numbered heap → length heap ≤ k → (o : Option Entry) × (rest : List Entry) × Gives moves q heap o rest
heap_runs_in zero moves q [] h z = (None, [], nothing)
heap_runs_in zero moves q (x ∷ l) h z = absurd (omega arith)
heap_runs_in (suc k) moves q [] h z = (None, [], nothing)
heap_runs_in (suc k) moves q (x ∷ l) h z =
    let (e, rest, c) = top_of x l h in
    let s : length rest ≤ k =
    omega (arith, ap length c.whole, ap length c.others, length-append c.before (e ∷ c.behind), length-append c.before c.behind) in
    let (o, last, g) = heap_runs_in k moves q rest (rest_all Numbered c h) s in
    by_cases (live moves q e) (λ t. (Some e, rest, alive (x ∷ l) e rest c t)) (λ t. (o, last, stale (x ∷ l) e rest o last c t g))

pub heap_runs : HeapRuns
heap_runs moves q heap h = heap_runs_in (length heap) moves q heap h (omega arith)

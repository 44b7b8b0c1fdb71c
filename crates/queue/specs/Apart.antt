-- The queue in three lent lists of any three lengths, and the same entries in one list. Assumes nothing.
use Rattle.std.specs.Prelude.{cond, ◌≡◌, refl, List, map, ℕ, ◌<◌, eqb, length, Float, get_or, set, Option, None, Some, IfSome}
use Rattle.std.proofs.Common.{sym, ap, ◌∙◌}
use Rattle.spec.specs.Floats.{zero_float}
use Rattle.spec.specs.Draws.{Words, unit_draw}
use Rattle.spec.specs.Lists.{range}
use Rattle.spec.specs.Fm.{Entry as First, Queue, waits, entry_of, or_above, offered, largest, key_of}
use Rattle.laws.specs.LayoutLaws.{map_range_at, map_range_length}
use Rattle.laws.specs.ListLaws.{below_range}
use Rattle.laws.specs.MemberLaws.{all_in, memb_in}
use Rattle.partition.specs.declared.place.Place.{Place}
use Rattle.partition.specs.Gains.{IsGain, fold_cong}
use Rattle.queue.specs.declared.entries.Entry.{Entry}
use Rattle.queue.specs.Enters.{Entered}
use Rattle.queue.specs.Queues.{no_entry, no_words, queue_of, queue_in, key_at, stamp_at, waits_at, first_of}

-- ---- one list of the same entries ----

-- what the three lists have of vertex v
abbrev pub entry_apart : List Float → List ℕ → List ℕ → ℕ → Entry
entry_apart keys stamps waiting v = record { key = get_or keys v zero_float; stamp = get_or stamps v 0; waits = eqb (get_or waiting v 0) 1 }

-- m places were filled, and they are all of the n
pub all_filled : (keys : List Float) (stamps waiting : List ℕ) (l : List Entry) (m n : ℕ) → l ≡ map (entry_apart keys stamps waiting) (range m) → length l ≡ n
    → l ≡ map (entry_apart keys stamps waiting) (range n)
all_filled keys stamps waiting l m n e h =
    let f = entry_apart keys stamps waiting in
    e ∙ ap (λ (k : ℕ). map f (range k)) (sym (map_range_length f m) ∙ sym (ap length e) ∙ h)

module _ (keys : List Float) (stamps waiting : List ℕ) (l : List Entry) (n : ℕ) (e : l ≡ map (entry_apart keys stamps waiting) (range n)) where
  abbrev apart : Queue
  apart = queue_of keys stamps waiting no_words

  abbrev joined : Queue
  joined = queue_in l no_words

  same_at : (v : ℕ) → v < n → get_or l v no_entry ≡ entry_apart keys stamps waiting v
  same_at v h = ap (λ (k : List Entry). get_or k v no_entry) e ∙ map_range_at (entry_apart keys stamps waiting) no_entry n v h

  pub same_waits : (v : ℕ) → v < n → waits joined v ≡ waits apart v
  same_waits v h = waits_at l no_words v ∙ ap (λ (x : Entry). x.waits) (same_at v h)

  same_entry : (v : ℕ) → v < n → entry_of joined v ≡ entry_of apart v
  same_entry v h =
      let k = key_at l v ∙ ap (λ (x : Entry). x.key) (same_at v h) in
      let s = stamp_at l v ∙ ap (λ (x : Entry). x.stamp) (same_at v h) in
      λ i. record { key = k i; stamp = s i; vertex = v }

  same_offered : (v : ℕ) → v < n → (o : Option First) → offered joined v o ≡ offered apart v o
  same_offered v h o = λ i. cond (same_waits v h i) (Some (or_above o (same_entry v h i))) o

  same_largest : largest n joined ≡ largest n apart
  same_largest = fold_cong (offered joined) (offered apart) (range n) None (λ v m o. same_offered v (all_in (λ j. j < n) v (range n) (below_range n) (memb_in v (range n) m)) o)

  same_first : (b : Option ℕ) → IfSome b (λ v. v < n) → first_of apart b ≡ first_of joined b
  same_first None h = refl
  same_first (Some v) h = ap (λ x. Some x) (sym (same_entry v h))

  pub apart_first : (b : Option ℕ) → IfSome b (λ v. v < n) → first_of joined b ≡ largest n joined → first_of apart b ≡ largest n apart
  apart_first b h p = same_first b h ∙ p ∙ same_largest

-- ---- vertices entered ----

module _ (ws : List ℕ) (o : Place) where
  pub entered_apart : (weights : List ℕ) (stamp v : ℕ) (keys : List Float) (stamps waiting : List ℕ) (w : Words) (keys' : List Float) (stamps' waiting' : List ℕ) (w' : Words) (g u k : Float)
      → IsGain ws o.nets o.sides o.net_count o.vertex_count weights v g → u ≡ (unit_draw w).value → k ≡ key_of g u
      → keys' ≡ set keys v k → stamps' ≡ set stamps v stamp → waiting' ≡ set waiting v 1 → w' ≡ (unit_draw w).words
      → Entered ws o weights stamp v (queue_of keys stamps waiting w) (queue_of keys' stamps' waiting' w')
  entered_apart weights stamp v keys stamps waiting w keys' stamps' waiting' w' g u k p q e a b c d vw =
      λ i. queue_of ((a ∙ ap (set keys v) (e ∙ (λ j. key_of (p vw j) (q j)))) i) (b i) (c i) (d i)

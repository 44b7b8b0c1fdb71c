-- The queue of refinement in a lent list of entries, and the search for its first one. Assumes nothing.
use Rattle.std.specs.Prelude.{Bool, true, false, cond, ◌≡◌, refl, List, [], map, ℕ, ◌≤◌, length, Float, get_or, set, ◌==◌, Option, None, Some}
use Rattle.std.proofs.Common.{sym, ap, ◌∙◌}
use Rattle.std.proofs.Math.ListN.{get_or-map, get_or-eq_default}
use Rattle.std.proofs.lemmas.List.{map-set, length-map}
use Rattle.std.proofs.Math.Seq.{map-set_same}
use Rattle.spec.specs.Floats.{zero_float}
use Rattle.spec.specs.Draws.{Words, lent_words}
use Rattle.spec.specs.Fm.{Entry as First, above, Queue, waits, entry_of, or_above, offered}
use Rattle.queue.specs.declared.entries.Entry.{Entry}

abbrev pub first : Float → ℕ → ℕ → First
first x s v = record { key = x; stamp = s; vertex = v }

-- where the words are of no account
abbrev pub no_words : Words
no_words = lent_words []

-- ---- the lists of the definition ----

abbrev pub no_entry : Entry
no_entry = record { key = zero_float; stamp = 0; waits = false }

abbrev pub keys_of : List Entry → List Float
keys_of l = map (λ (x : Entry). x.key) l

abbrev pub stamps_of : List Entry → List ℕ
stamps_of l = map (λ (x : Entry). x.stamp) l

abbrev pub waits_of : List Entry → List ℕ
waits_of l = map (λ (x : Entry). cond x.waits 1 0) l

abbrev pub queue_of : List Float → List ℕ → List ℕ → Words → Queue
queue_of keys stamps waiting words = record { keys = keys; stamps = stamps; waiting = waiting; words = words }

abbrev pub queue_in : List Entry → Words → Queue
queue_in l w = queue_of (keys_of l) (stamps_of l) (waits_of l) w

pub key_at : (l : List Entry) (v : ℕ) → get_or (keys_of l) v zero_float ≡ (get_or l v no_entry).key
key_at l v = get_or-map (λ (x : Entry). x.key) l v no_entry

pub stamp_at : (l : List Entry) (v : ℕ) → get_or (stamps_of l) v 0 ≡ (get_or l v no_entry).stamp
stamp_at l v = get_or-map (λ (x : Entry). x.stamp) l v no_entry

pub waits_at : (l : List Entry) (w : Words) (v : ℕ) → waits (queue_in l w) v ≡ (get_or l v no_entry).waits
waits_at l w v = ap (λ (z : ℕ). z == 1) (get_or-map (λ (x : Entry). cond x.waits 1 0) l v no_entry) ∙ bit (get_or l v no_entry).waits
  where
    bit : (b : Bool) → (cond {A = ℕ} b 1 0 == 1) ≡ b
    bit true = refl
    bit false = refl

pub waits_past : (l : List Entry) (w : Words) (v : ℕ) → length l ≤ v → waits (queue_in l w) v ≡ false
waits_past l w v h = waits_at l w v ∙ ap (λ (x : Entry). x.waits) (get_or-eq_default l no_entry h)

-- ---- the first entry so far ----

-- the entry of a vertex, if there is one
abbrev pub first_of : Queue → Option ℕ → Option First
first_of q None = None
first_of q (Some b) = Some (entry_of q b)

module _ (q : Queue) where
  -- v does not wait, or does and comes first, or does not
  pub offer_none : (v : ℕ) (b : Option ℕ) → waits q v ≡ false → first_of q b ≡ offered q v (first_of q b)
  offer_none v b e = sym (ap (λ t. cond t (Some (or_above (first_of q b) (entry_of q v))) (first_of q b)) e)

  pub offer_first : (v : ℕ) → waits q v ≡ true → first_of q (Some v) ≡ offered q v None
  offer_first v w = sym (ap (λ t. cond t (Some (entry_of q v)) None) w)

  pub offer_above : (v b : ℕ) → waits q v ≡ true → above (entry_of q v) (entry_of q b) ≡ true → first_of q (Some v) ≡ offered q v (first_of q (Some b))
  offer_above v b w a =
      sym (ap (λ t. cond t (Some (or_above (Some (entry_of q b)) (entry_of q v))) (Some (entry_of q b))) w
      ∙ ap (λ t. Some (cond t (entry_of q v) (entry_of q b))) a)

  pub offer_below : (v b : ℕ) → waits q v ≡ true → above (entry_of q v) (entry_of q b) ≡ false → first_of q (Some b) ≡ offered q v (first_of q (Some b))
  offer_below v b w a =
      sym (ap (λ t. cond t (Some (or_above (Some (entry_of q b)) (entry_of q v))) (Some (entry_of q b))) w
      ∙ ap (λ t. Some (cond t (entry_of q v) (entry_of q b))) a)

-- as the code has it
pub above_at : (l : List Entry) (w : Words) (v b : ℕ) (x y : Entry) (r : Bool) → x ≡ get_or l v no_entry → y ≡ get_or l b no_entry
    → r ≡ above (first x.key x.stamp v) (first y.key y.stamp b) → r ≡ above (entry_of (queue_in l w) v) (entry_of (queue_in l w) b)
above_at l w v b x y r p k e =
    e
    ∙ (λ i. above (first (p i).key (p i).stamp v) (first (k i).key (k i).stamp b))
    ∙ sym (λ i. above (first (key_at l v i) (stamp_at l v i) v) (first (key_at l b i) (stamp_at l b i) b))

-- a vertex that does not wait changes nothing
pub offered_none : (q : Queue) (v : ℕ) → waits q v ≡ false → (o : Option First) → offered q v o ≡ o
offered_none q v e o = ap (λ t. cond t (Some (or_above o (entry_of q v))) o) e

-- ---- an entry taken off ----

pub taken_is : (l l' : List Entry) (v : ℕ) (d : Entry) → l' ≡ set l v (record { key = (get_or l v d).key; stamp = (get_or l v d).stamp; waits = false })
    → (keys_of l' ≡ keys_of l) × (stamps_of l' ≡ stamps_of l) × (waits_of l' ≡ set (waits_of l) v 0)
taken_is l l' v d a = (
  ap keys_of a ∙ map-set_same (λ (y : Entry). y.key) l v _ d refl,
  ap stamps_of a ∙ map-set_same (λ (y : Entry). y.stamp) l v _ d refl,
  ap waits_of a ∙ map-set (λ (y : Entry). cond y.waits 1 0) l v _,
)

-- ---- lists that are as long ----

pub long_as : (l l' : List Entry) (n : ℕ) → length l' ≡ length l → length (keys_of l) ≡ n → (length (keys_of l') ≡ n) × (length (stamps_of l') ≡ n) × (length (waits_of l') ≡ n)
long_as l l' n e k =
    let z : length l' ≡ n = e ∙ sym (length-map l (λ (y : Entry). y.key)) ∙ k in
    (length-map l' (λ (y : Entry). y.key) ∙ z, length-map l' (λ (y : Entry). y.stamp) ∙ z, length-map l' (λ (y : Entry). cond y.waits 1 0) ∙ z)

pub long_is : (l : List Entry) (n : ℕ) → length (keys_of l) ≡ n → length l ≡ n
long_is l n k = sym (length-map l (λ (y : Entry). y.key)) ∙ k

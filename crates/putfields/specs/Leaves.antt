-- The fields of leaves, one after another. Assumes nothing.
use Rattle.std.specs.Prelude.{◌≡◌, List, [], ◌∷◌, ◌++◌, map, ℕ, zero, suc, ◌+◌, ◌*◌, ◌<◌, ◌≤◌, length, get_or, drop}
use Rattle.std.proofs.Math.Path.{refl, ap}
use Rattle.std.proofs.Common.{sym, ◌∙◌, subst, append-nil, append_assoc, add-one, arith, length-append, get_or-drop}
use Rattle.std.proofs.Math.Decide.{dec_le}
use Rattle.spec.specs.Lists.{range}
use Rattle.spec.specs.Network.{max_legs}
use Rattle.spec.specs.Layout.{row_at}
use Rattle.spec.specs.File.{field, leaf_fields}
use Rattle.spec.specs.FileClaims.{Bytes}
use Rattle.spec.specs.Layout.{network_of}
use Rattle.network.specs.Checks.{Rows, leaves_of}
use Rattle.network.specs.Lists.{Holds}
use Rattle.network.specs.Views.{net_in, in_rows, in_facts}
use Rattle.network.specs.declared.accepted.Accepted.{Accepted}
use Rattle.laws.specs.LayoutLaws.{firsts_length, firsts_at, map-range_more}
use Rattle.laws.specs.FileBytes.{all_bytes}
use Rattle.putfields.specs.Put.{Put, put_both, put_none, put_length}

-- n leaves have counts and places, and their indices are bytes
pub record Leaves (n : ℕ) (counts cells : List ℕ) : Type 0 where
  pub rows : Rows n counts cells
  pub small : (i k : ℕ) → i < n → k < get_or counts i 0 → get_or cells (i * max_legs + k) 0 < 256

pub row_bytes : {n : ℕ} {counts cells : List ℕ} (i : ℕ) → Leaves n counts cells → i < n → Bytes (row_at counts cells i)
row_bytes {n} {counts} {cells} i l h =
    all_bytes (row_at counts cells i) (λ k b.
    let c : k < get_or counts i 0 = omega (arith, firsts_length (get_or counts i 0) (drop (i * max_legs) cells)) in
    let e : get_or (row_at counts cells i) k 0 ≡ get_or cells (i * max_legs + k) 0 = firsts_at (get_or counts i 0) (drop (i * max_legs) cells) k c ∙ get_or-drop (i * max_legs) cells k 0 in
    omega (arith, l.small i k h c))

-- ---- how many bytes they take ----

unfoldable pub leaf_bytes : ℕ → List ℕ → ℕ
leaf_bytes zero counts = 0
leaf_bytes (suc n) counts = leaf_bytes n counts + (3 + get_or counts n 0)

pub leaf_bytes_none : (counts : List ℕ) → leaf_bytes 0 counts ≡ 0
unfolding leaf_bytes
leaf_bytes_none counts = refl

pub leaf_bytes_more : (n : ℕ) (counts : List ℕ) → leaf_bytes (n + 1) counts ≡ leaf_bytes n counts + (3 + get_or counts n 0)
unfolding leaf_bytes
leaf_bytes_more n counts = ap (λ (k : ℕ). leaf_bytes k counts) (add-one n)

-- each leaf's bytes are among them
pub leaf_bytes_within : (n i : ℕ) (counts : List ℕ) → i < n → leaf_bytes i counts + (3 + get_or counts i 0) ≤ leaf_bytes n counts
unfolding leaf_bytes
leaf_bytes_within zero i counts h = absurd (omega arith)
leaf_bytes_within (suc n) i counts h =
    elim (dec_le n i) [
      | yes q ↦ let e : i ≡ n = omega arith in rw e (omega arith)
      | no q ↦ omega (arith, leaf_bytes_within n i counts (omega arith))
    ]

-- ---- one leaf more ----

leaf_fields_snoc : (ls : List (List ℕ)) (l : List ℕ) → leaf_fields (ls ++ (l ∷ [])) ≡ leaf_fields ls ++ field 2 l
leaf_fields_snoc [] l = append-nil (field 2 l)
leaf_fields_snoc (x ∷ ls) l = ap (λ (r : List ℕ). field 2 x ++ r) (leaf_fields_snoc ls l) ∙ sym (append_assoc (field 2 x) (leaf_fields ls) (field 2 l))

module _ (counts cells : List ℕ) where
  fields_none : leaf_fields (leaves_of 0 counts cells) ≡ []
  unfolding leaves_of
  fields_none = refl

  fields_more : (n : ℕ) → leaf_fields (leaves_of (n + 1) counts cells) ≡ leaf_fields (leaves_of n counts cells) ++ field 2 (row_at counts cells n)
  unfolding leaves_of
  fields_more n = ap leaf_fields (map-range_more (row_at counts cells) n) ∙ leaf_fields_snoc (map (row_at counts cells) (range n)) (row_at counts cells n)

  pub leaf_fields_length : (n : ℕ) → length (leaf_fields (leaves_of n counts cells)) ≡ leaf_bytes n counts
  leaf_fields_length zero = ap length fields_none ∙ sym (leaf_bytes_none counts)
  leaf_fields_length (suc n) =
      let row : length (row_at counts cells n) ≡ get_or counts n 0 = firsts_length (get_or counts n 0) (drop (n * max_legs) cells) in
      let e : length (leaf_fields (leaves_of (n + 1) counts cells)) ≡ leaf_bytes n counts + (3 + get_or counts n 0)
      = ap length (fields_more n) ∙ omega (arith, length-append (leaf_fields (leaves_of n counts cells)) (field 2 (row_at counts cells n)), leaf_fields_length n) in
      rw (← add-one n) (e ∙ sym (leaf_bytes_more n counts))

-- ---- the loop over the leaves ----

-- the fields of the first i of n leaves are put
pub record PutLeaves (d out : List ℕ) (at next n i : ℕ) (counts cells : List ℕ) : Type 0 where
  pub within : i ≤ n
  pub bytes : Put d out at next (leaf_fields (leaves_of i counts cells))

pub leaves_start : (d : List ℕ) (at n : ℕ) (counts cells : List ℕ) → PutLeaves d d at at n 0 counts cells
unfolding leaves_of
leaves_start d at n counts cells = record { within = omega arith; bytes = put_none d at }

-- there is room for leaf i's field
pub leaf_room : {d out : List ℕ} {at next n i : ℕ} {counts cells row : List ℕ} → Leaves n counts cells → at + length (leaf_fields (leaves_of n counts cells)) ≤ length d
    → PutLeaves d out at next n i counts cells → i < n → row ≡ row_at counts cells i
    → (length row < 65536) × (next + 3 + length row ≤ length out) × Bytes row
leaf_room {d} {out} {at} {next} {n} {i} {counts} {cells} {row} l r p h e =
    let k : length row ≡ get_or counts i 0 = ap length e ∙ firsts_length (get_or counts i 0) (drop (i * max_legs) cells) in
    let a : length (leaf_fields (leaves_of i counts cells)) ≡ leaf_bytes i counts = leaf_fields_length counts cells i in
    let b : length (leaf_fields (leaves_of n counts cells)) ≡ leaf_bytes n counts = leaf_fields_length counts cells n in (
      omega (arith, l.rows.few i h),
      omega (arith, put_length p.bytes, p.bytes.past, leaf_bytes_within n i counts h),
      subst Bytes (sym e) (row_bytes i l h),
    )

pub leaves_next : {d out out' : List ℕ} {at next next' n i : ℕ} {counts cells row : List ℕ} → PutLeaves d out at next n i counts cells → i < n → row ≡ row_at counts cells i
    → Put out out' next next' (field 2 row) → PutLeaves d out' at next' n (i + 1) counts cells
leaves_next {d} {out} {out'} {at} {next} {next'} {n} {i} {counts} {cells} {row} p h e q =
    record {
      within = omega arith;
      bytes = subst (Put d out' at next') (sym (fields_more counts cells i))
          (put_both p.bytes (subst (λ (x : List ℕ). Put out out' next next' (field 2 x)) e q));
    }

pub leaves_end : {d out : List ℕ} {at next n i : ℕ} {counts cells : List ℕ} → PutLeaves d out at next n i counts cells → n ≤ i → Put d out at next (leaf_fields (leaves_of n counts cells))
leaves_end {d} {out} {at} {next} {n} {i} {counts} {cells} p h =
    let e : i ≡ n = omega (arith, p.within) in
    subst (λ (k : ℕ). Put d out at next (leaf_fields (leaves_of k counts cells))) e p.bytes

-- ---- an accepted network's leaves ----

module _ (a : Accepted) where
  pub leaves_are : (net_in a).leaves ≡ leaves_of (length a.leg_counts.now) a.leg_counts.now a.legs.now
  unfolding network_of leaves_of
  leaves_are = refl

  pub accepted_leaves : Holds a.weights.now a.leg_counts.now a.legs.now a.outputs.now → Leaves (length a.leg_counts.now) a.leg_counts.now a.legs.now
  accepted_leaves h =
      let f = in_facts a h in
      record { rows = in_rows a h; small = λ i k x y. omega (arith, f.in_range i k x y, f.few_indices) }

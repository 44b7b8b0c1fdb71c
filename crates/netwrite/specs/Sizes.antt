-- How many bytes the file of some contents takes. Assumes nothing.
use Rattle.std.specs.Prelude.{◌≡◌, refl, Bool, true, false, not, cond, List, [], ◌∷◌, ◌++◌, ℕ, ◌+◌, ◌*◌, ◌≤◌, ◌<◌, eqb, get_or, Option, None, Some, MatchOption}
use Rattle.std.proofs.Common.{sym, ap, ◌∙◌, append_assoc}
use native.Mathlib.Omega.{arith}
use Rattle.std.proofs.Math.ListN.{length, length-append}
use Rattle.spec.specs.Layout.{firsts, network_of}
use Rattle.spec.specs.File.{Ask, plain, flagged, target, Contents, tree_bytes, field, leaf_fields, tree_field, ask_field, file_of}
use Rattle.laws.specs.LayoutLaws.{firsts_length}
use Rattle.network.specs.Checks.{Fitting, leaves_of}
use Rattle.network.specs.Codes.{Facts}
use Rattle.network.specs.Lists.{Holds}
use Rattle.network.specs.Views.{in_facts}
use Rattle.network.specs.declared.accepted.Accepted.{Accepted}
use Rattle.putfields.specs.Leaves.{leaf_bytes, leaf_bytes_none, leaf_bytes_more, leaf_fields_length}
use Rattle.netwrite.specs.Contents.{network_fields}

-- at most 128 leaves, each of at most 32 indices
pub record Few (counts : List ℕ) : Type 0 where
  pub leaves : length counts ≤ 128
  pub legs : (i : ℕ) → i < length counts → get_or counts i 0 ≤ 32

-- the same of the first n of a longer list
pub record FewOf (n : ℕ) (counts : List ℕ) : Type 0 where
  pub leaves : n ≤ 128
  pub counted : n ≤ length counts
  pub legs : (i : ℕ) → i < n → get_or counts i 0 ≤ 32

pub few_all : {counts : List ℕ} → Few counts → FewOf (length counts) counts
few_all f = record { leaves = f.leaves; counted = omega arith; legs = f.legs }

pub few_whole : {counts : List ℕ} → FewOf (length counts) counts → Few counts
few_whole f = record { leaves = f.leaves; legs = f.legs }

-- ---- the loop over the leaves' counts ----

pub record Summed (i sum : ℕ) (counts : List ℕ) : Type 0 where
  pub bytes : sum ≡ leaf_bytes i counts
  pub small : sum ≤ i * 35

pub summed_none : (counts : List ℕ) → Summed 0 0 counts
summed_none counts = record { bytes = sym (leaf_bytes_none counts); small = omega arith }

module _ {n : ℕ} {counts : List ℕ} (f : FewOf n counts) where
  pub summed_more : {i sum : ℕ} (x : ℕ) → x ≡ get_or counts i 0 → Summed i sum counts → i < n → Summed (i + 1) (sum + (3 + x)) counts
  summed_more {i} {sum} x e s h =
      record {
        bytes = omega (arith, s.bytes, leaf_bytes_more i counts);
        small = omega (arith, s.small, f.legs i h);
      }

  pub summed_end : {i sum : ℕ} → Summed i sum counts → i ≡ n → (sum ≡ leaf_bytes n counts) × (sum ≤ 4480)
  summed_end {i} {sum} s e = (s.bytes ∙ ap (λ (k : ℕ). leaf_bytes k counts) e, omega (arith, s.small, f.leaves))

pub summed_next : {i sum : ℕ} {counts : List ℕ} (x : ℕ) → x ≡ get_or counts i 0 → Few counts → Summed i sum counts → i < length counts → Summed (i + 1) (sum + (3 + x)) counts
summed_next x e f s h = summed_more (few_all f) x e s h

-- ---- the file's length ----

module _ (m n o : ℕ) (weights counts cells outputs : List ℕ) where
  pub network_fields_length : length (network_fields (network_of m n o weights counts cells outputs)) ≡ 6 + m + o + leaf_bytes n counts
  unfolding network_fields network_of leaves_of
  network_fields_length =
      let N = network_of m n o weights counts cells outputs in
      let w : length (firsts m weights) ≡ m = firsts_length m weights in
      let u : length (firsts o outputs) ≡ o = firsts_length o outputs in
      omega (
        arith,
        length-append (field 1 N.weights) (leaf_fields N.leaves ++ field 3 N.outputs),
        length-append (leaf_fields N.leaves) (field 3 N.outputs),
        leaf_fields_length counts cells n,
      )

-- the counts of a network that is accepted
pub fitting_few : {m n o : ℕ} {weights counts cells outputs : List ℕ} → Fitting m n o weights counts cells outputs → Facts m n o weights counts cells outputs → FewOf n counts
fitting_few l f = record { leaves = f.few_leaves; counted = l.count_places f.few_leaves; legs = f.few_legs }

module _ (a : Accepted) (h : Holds a.weights.now a.leg_counts.now a.legs.now a.outputs.now) where
  -- its lists are as long as its counts say
  pub in_fitting : Fitting (length a.weights.now) (length a.leg_counts.now) (length a.outputs.now) a.weights.now a.leg_counts.now a.legs.now a.outputs.now
  in_fitting = record { weight_places = λ k. omega arith; count_places = λ k. omega arith; leg_places = h.rows; output_places = λ k. omega arith }

  pub accepted_few : Few a.leg_counts.now
  accepted_few = few_whole (fitting_few in_fitting (in_facts a h))

-- the file of contents: the network's fields, the tree's, and what is asked
pub file_fields : (c : Contents) → file_of c ≡ network_fields c.network ++ (tree_field c.tree ++ ask_field c.ask)
unfolding file_of network_fields
file_fields c =
    let N = c.network in
    let t = tree_field c.tree ++ ask_field c.ask in
    ap (λ (l : List ℕ). field 1 N.weights ++ l) (sym (append_assoc (leaf_fields N.leaves) (field 3 N.outputs) t))
    ∙ sym (append_assoc (field 1 N.weights) (leaf_fields N.leaves ++ field 3 N.outputs) t)

pub parts_length : (c : Contents) → length (file_of c) ≡ length (network_fields c.network) + (length (tree_field c.tree) + length (ask_field c.ask))
parts_length c =
    ap length (file_fields c)
    ∙ omega (arith, length-append (network_fields c.network) (tree_field c.tree ++ ask_field c.ask), length-append (tree_field c.tree) (ask_field c.ask))

-- ---- the same from the counts and the payloads ----

-- is there a tree
abbrev pub has_tree : Option (List ℕ) → Bool
has_tree None = false
has_tree (Some kids) = true

-- the tag of what is asked, 0 where nothing is, and its payload
abbrev pub tag_of : Ask → ℕ
tag_of plain = 0
tag_of (flagged l) = 5
tag_of (target w) = 6

abbrev pub payload_of : Ask → List ℕ
payload_of plain = []
payload_of (flagged l) = l
payload_of (target w) = w ∷ []

-- all but the payloads of the tree and of what is asked
unfoldable pub fixed_bytes : (m n o : ℕ) → List ℕ → Bool → ℕ → ℕ
fixed_bytes m n o counts tree tag = 6 + m + o + leaf_bytes n counts + cond tree 3 0 + cond (not (eqb tag 0)) 3 0

pub tree_length : (t : Option (List ℕ)) → length (tree_field t) ≡ cond (has_tree t) 3 0 + length (tree_bytes t)
tree_length None = refl
tree_length (Some kids) = omega arith

pub ask_length : (a : Ask) → length (ask_field a) ≡ cond (not (eqb (tag_of a) 0)) 3 0 + length (payload_of a)
ask_length plain = refl
ask_length (flagged l) = omega arith
ask_length (target w) = refl

pub file_length : (m n o : ℕ) (weights counts cells outputs : List ℕ) (t : Option (List ℕ)) (a : Ask)
    → length (file_of (record { network = network_of m n o weights counts cells outputs; tree = t; ask = a }))
    ≡ fixed_bytes m n o counts (has_tree t) (tag_of a) + (length (tree_bytes t) + length (payload_of a))
unfolding fixed_bytes
file_length m n o weights counts cells outputs t a =
    parts_length (record { network = network_of m n o weights counts cells outputs; tree = t; ask = a })
    ∙ omega (arith, network_fields_length m n o weights counts cells outputs, tree_length t, ask_length a)

-- what is left behind the last field, or that there is no room for it
pub room_is : (o : Option ℕ) (left n size whole : ℕ) → size + n ≡ whole + left → MatchOption o (left < n) (λ r. r + n ≡ left)
    → MatchOption o (size < whole) (λ r. whole ≤ size)
room_is None left n size whole e h = omega arith
room_is (Some r) left n size whole e h = omega arith

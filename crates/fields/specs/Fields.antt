-- One field read into the lists that are lent: what a scan says then. Assumes nothing.
use Rattle.std.specs.Prelude.{Bool, true, false, ◌||◌, cond, ◌≡◌, ℕ, ◌+◌, ◌*◌, ◌≤◌, ◌<◌, ltb, set, Option, None, Some, Result, Ok, Err, MatchResult}
use mathlib.Core.List.{List, [], ◌∷◌, ◌++◌}
use Rattle.std.proofs.Math.Path.{refl, ap, ap₂}
use Rattle.std.proofs.Common.{sym, ◌∙◌, get_or-set_same, get_or-set_other}
use native.Mathlib.Omega.{arith}
use Rattle.std.proofs.Math.Decide.{dec_le}
use Rattle.std.proofs.Math.Dec.{leb}
use Rattle.std.proofs.Math.ListN.{length, get_or}
use borrow.Author.Tests.{ltb-false, leb-false}
use Rattle.spec.specs.Memory.{placed}
use Rattle.spec.specs.declared.Refusal.{Refusal}
use Rattle.spec.specs.declared.Refusal.TheVariants.{TooLarge}
use Rattle.spec.specs.Refusal.{decide}
use Rattle.spec.specs.Network.{Network, leaf_count, index_count}
use Rattle.spec.specs.Layout.{network_of, firsts}
use Rattle.spec.specs.File.{Ask, plain, flagged, target, Due, leaves_due, tree_due, ask_due, end_due, Reading, take_weights, take_leaf, take_outputs, take_tree, take_flags, take_target}
use Rattle.laws.specs.Booleans.{or_none}
use Rattle.network.specs.declared.Network.{Network as Record}
use Rattle.network.specs.Record.{net_of}
use Rattle.network.specs.Layouts.{layout_leaf_count, layout_index_count, layout_more_leaves, firsts_whole}
use Rattle.payloads.specs.Payload.{verdict, weights_refusal, leaf_refusal, outputs_refusal, tree_refusal, flags_refusal}
use Rattle.fields.specs.Scans.{record_in, reading_of}
use Rattle.fields.specs.declared.Scan.{Scan}

-- what is kept from field to field: at most 128 leaves, of at most 32 indices each
pub record Sound (n : Record) : Type 0 where
  pub leaves : n.leaf_count ≤ 128
  pub few : (i : ℕ) → i < n.leaf_count → get_or n.leg_counts i 0 ≤ 32

-- a field has been read, as R says: the scan and the lists afterwards, or the refusal
abbrev pub Takes : Result Reading Refusal → Result Scan Refusal → (weights counts legs outputs : List ℕ) → Type 0
Takes R r w c l o =
    MatchResult r
    (λ s. (R ≡ Ok (reading_of s (record_in s.counts w c l o))) × Sound (record_in s.counts w c l o))
    (λ k. R ≡ Err k)

-- ---- what a check's answer decides ----

clash {ℓ} : {A : Type 0} {P : Type ℓ} (k : Refusal) (x : A) → ◌≡◌ {A = Result A Refusal} (Err k) (Ok x) → P
clash k x e = absurd (let w : ◌≡◌ {A = ℕ} 0 1 = cc in omega arith)

pub passed : (o : Option Refusal) → Ok tt ≡ verdict o → o ≡ None
passed None e = refl
passed (Some k) e = clash k tt (sym e)

pub decided : {A : Type 0} (o : Option Refusal) (y : Result A Refusal) → Ok tt ≡ verdict o → decide o y ≡ y
decided o y e = ap (λ p. decide p y) (passed o e)

pub refused : {A : Type 0} (o : Option Refusal) (y : Result A Refusal) (k : Refusal) → Err k ≡ verdict o → decide o y ≡ Err k
refused None y k e = clash k tt e
refused (Some j) y k e = let w : k ≡ j = cc in ap Err (sym w)

-- the same of whatever the definitions decide by the check: the refusal that it has found, or what is there where it has found none
module _ {A : Type 0} (o : Option Refusal) (y : A) {R : Result A Refusal} (q : R ≡ decide o (Ok y)) where
  pub taken_not : (k : Refusal) → Err k ≡ verdict o → R ≡ Err k
  taken_not k e = q ∙ refused o (Ok y) k e

  pub taken_yes : Ok tt ≡ verdict o → R ≡ Ok y
  taken_yes e = q ∙ decided o (Ok y) e

-- a network, and nothing more
abbrev pub after : Due → Network → Reading
after d N = record { due = d; read = record { network = N; tree = None; ask = plain } }

-- a refusal by the first of two checks, or none at all
cond_none : (b : Bool) (r : Refusal) (o : Option Refusal) → cond b (Some r) o ≡ None → b ≡ false
cond_none true r o e = absurd (let w : ◌≡◌ {A = ℕ} 0 1 = cc in omega arith)
cond_none false r o e = refl

module _ (R : Record) where
  pub indices : index_count (net_of R) ≡ R.index_count
  unfolding net_of
  indices = layout_index_count R.index_count R.leaf_count R.output_count R.weights R.leg_counts R.legs R.outputs

  pub leaves : leaf_count (net_of R) ≡ R.leaf_count
  unfolding net_of
  leaves = layout_leaf_count R.index_count R.leaf_count R.output_count R.weights R.leg_counts R.legs R.outputs

-- ---- what each field's checks decide, by the network's counts ----

module _ (p : List ℕ) where
  pub weights_decide : take_weights p ≡ decide (weights_refusal p) (Ok (after leaves_due (record { leaves = []; outputs = []; weights = p })))
  unfolding weights_refusal
  weights_decide = refl

  pub weights_fit : Ok tt ≡ verdict (weights_refusal p) → length p ≤ 256
  unfolding weights_refusal
  weights_fit e = ltb-false 256 (length p) (cond_none (ltb 256 (length p)) TooLarge _ (passed (weights_refusal p) e))

  pub leaf_fits : (m k : ℕ) → Ok tt ≡ verdict (leaf_refusal m k p) → (length p ≤ 32) × (k < 128)
  unfolding leaf_refusal
  leaf_fits m k e =
      let (a, b) = or_none (ltb 32 (length p)) (leb 128 k) (cond_none (ltb 32 (length p) || leb 128 k) TooLarge _ (passed (leaf_refusal m k p) e)) in
      (ltb-false 32 (length p) a, leb-false 128 k b)

  pub outputs_fit : (m : ℕ) → Ok tt ≡ verdict (outputs_refusal m p) → length p ≤ 32
  unfolding outputs_refusal
  outputs_fit m e = ltb-false 32 (length p) (cond_none (ltb 32 (length p)) TooLarge _ (passed (outputs_refusal m p) e))

  pub leaf_decide : (N : Network) (m k : ℕ) → index_count N ≡ m → leaf_count N ≡ k
      → take_leaf N p ≡ decide (leaf_refusal m k p) (Ok (after leaves_due (record { leaves = N.leaves ++ (p ∷ []); outputs = []; weights = N.weights })))
  unfolding leaf_refusal
  leaf_decide N m k a b =
      let y = Ok (after leaves_due (record { leaves = N.leaves ++ (p ∷ []); outputs = []; weights = N.weights })) in
      ap₂ (λ i j. decide (leaf_refusal i j p) y) a b

  pub outputs_decide : (N : Network) (m : ℕ) → index_count N ≡ m
      → take_outputs N p ≡ decide (outputs_refusal m p) (Ok (after tree_due (record { leaves = N.leaves; outputs = p; weights = N.weights })))
  unfolding outputs_refusal
  outputs_decide N m a =
      let y = Ok (after tree_due (record { leaves = N.leaves; outputs = p; weights = N.weights })) in
      ap (λ i. decide (outputs_refusal i p) y) a

  pub tree_decide : (N : Network) (k : ℕ) → leaf_count N ≡ k
      → take_tree N p ≡ decide (tree_refusal k p) (Ok (record { due = ask_due; read = record { network = N; tree = Some p; ask = plain } }))
  unfolding tree_refusal
  tree_decide N k a = ap (λ i. decide (tree_refusal i p) (Ok (record { due = ask_due; read = record { network = N; tree = Some p; ask = plain } }))) a

  pub flags_decide : (N : Network) (tree : Option (List ℕ)) (m : ℕ) → index_count N ≡ m
      → take_flags N tree p ≡ decide (flags_refusal m p) (Ok (record { due = end_due; read = record { network = N; tree = tree; ask = flagged p } }))
  unfolding flags_refusal
  flags_decide N tree m a =
      ap (λ i. decide (flags_refusal i p) (Ok (record { due = end_due; read = record { network = N; tree = tree; ask = flagged p } }))) a

-- a target field not of one byte
pub target_not : (N : Network) (tree : Option (List ℕ)) (p : List ℕ) → (length p ≡ 1 → ⊥) → take_target N tree p ≡ Err TooLarge
target_not N tree [] n = refl
target_not N tree (w ∷ []) n = absurd (n refl)
target_not N tree (w ∷ v ∷ p) n = refl

-- and one of one byte
pub target_is : (N : Network) (tree : Option (List ℕ)) (p : List ℕ) → length p ≡ 1
    → take_target N tree p ≡ Ok (record { due = end_due; read = record { network = N; tree = tree; ask = target (get_or p 0 0) } })
target_is N tree [] e = absurd (omega arith)
target_is N tree (w ∷ []) e = refl
target_is N tree (w ∷ v ∷ p) e = absurd (omega arith)

-- ---- what has been read where they pass ----

-- a record stands for the network that has been read, with a tree and what is asked, and it is sound
abbrev pub TakenWith : Result Reading Refusal → Due → Option (List ℕ) → Ask → Record → Type 0
TakenWith R d t a n = (R ≡ Ok (record { due = d; read = record { network = net_of n; tree = t; ask = a } })) × Sound n

-- the same without a tree, and nothing asked
abbrev pub Taken : Result Reading Refusal → Due → Record → Type 0
Taken R d n = TakenWith R d None plain n

-- the record with the weights of a file
pub weights_taken : (p weights counts cells outputs : List ℕ) → length p ≤ length weights → Ok tt ≡ verdict (weights_refusal p)
    → Taken (take_weights p) leaves_due
    (record { index_count = length p; leaf_count = 0; output_count = 0; weights = placed weights 0 p; leg_counts = counts; legs = cells; outputs = outputs })
unfolding net_of network_of firsts
weights_taken p weights counts cells outputs h e = (
  taken_yes (weights_refusal p) _ (weights_decide p) e
      ∙ ap (λ l. Ok (after leaves_due (record { leaves = []; outputs = []; weights = l }))) (sym (firsts_whole weights p h)),
  record { leaves = omega arith; few = λ i k. absurd (omega arith) },
)

module _ (R : Record) (sound : Sound R) where
  -- the counts with one leaf more
  pub few_more : (n : ℕ) → n ≤ 32 → R.leaf_count < length R.leg_counts
      → (i : ℕ) → i < R.leaf_count + 1 → get_or (set R.leg_counts R.leaf_count n) i 0 ≤ 32
  few_more n a b i k =
      elim (dec_le R.leaf_count i) [
        | yes q ↦ let z : i ≡ R.leaf_count = omega arith in rw (z, get_or-set_same R.leg_counts R.leaf_count n 0 b) a
        | no q ↦ rw (get_or-set_other R.leg_counts R.leaf_count i n 0 (λ z. omega arith)) (sound.few i (omega arith))
      ]

  module _ (p : List ℕ) where
    pub leaf_taken : 128 ≤ length R.leg_counts → 4096 ≤ length R.legs → Ok tt ≡ verdict (leaf_refusal R.index_count R.leaf_count p)
        → Taken (take_leaf (net_of R) p) leaves_due
        (record {
          index_count = R.index_count;
          leaf_count = R.leaf_count + 1;
          output_count = 0;
          weights = R.weights;
          leg_counts = set R.leg_counts R.leaf_count (length p);
          legs = placed R.legs (R.leaf_count * 32) p;
          outputs = R.outputs;
        })
    unfolding net_of network_of firsts
    leaf_taken c d e =
        let (f, g) = leaf_fits p R.index_count R.leaf_count e in (
          taken_yes (leaf_refusal R.index_count R.leaf_count p) _ (leaf_decide p (net_of R) R.index_count R.leaf_count (indices R) (leaves R)) e
              ∙ ap (λ N. Ok (after leaves_due N)) (sym (layout_more_leaves R.index_count R.leaf_count 0 R.weights R.leg_counts R.legs R.outputs p sound.few (omega arith) (omega arith) f)),
          record { leaves = omega arith; few = few_more (length p) f (omega arith) },
        )

    pub outputs_taken : 32 ≤ length R.outputs → Ok tt ≡ verdict (outputs_refusal R.index_count p)
        → Taken (take_outputs (net_of R) p) tree_due
        (record {
          index_count = R.index_count;
          leaf_count = R.leaf_count;
          output_count = length p;
          weights = R.weights;
          leg_counts = R.leg_counts;
          legs = R.legs;
          outputs = placed R.outputs 0 p;
        })
    unfolding net_of network_of
    outputs_taken c e =
        let f : length p ≤ 32 = outputs_fit p R.index_count e in (
          taken_yes (outputs_refusal R.index_count p) _ (outputs_decide p (net_of R) R.index_count (indices R)) e
              ∙ ap (λ l. Ok (after tree_due (record { leaves = (net_of R).leaves; outputs = l; weights = (net_of R).weights }))) (sym (firsts_whole R.outputs p (omega arith))),
          record { leaves = sound.leaves; few = sound.few },
        )

    pub tree_taken : Ok tt ≡ verdict (tree_refusal R.leaf_count p) → TakenWith (take_tree (net_of R) p) ask_due (Some p) plain R
    tree_taken e = (taken_yes (tree_refusal R.leaf_count p) _ (tree_decide p (net_of R) R.leaf_count (leaves R)) e, sound)

    module _ (tree : Option (List ℕ)) where
      pub flags_taken : Ok tt ≡ verdict (flags_refusal R.index_count p) → TakenWith (take_flags (net_of R) tree p) end_due tree (flagged p) R
      flags_taken e = (taken_yes (flags_refusal R.index_count p) _ (flags_decide p (net_of R) tree R.index_count (indices R)) e, sound)

      pub target_taken : length p ≡ 1 → TakenWith (take_target (net_of R) tree p) end_due tree (target (get_or p 0 0)) R
      target_taken e = (target_is (net_of R) tree p e, sound)

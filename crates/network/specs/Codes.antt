-- A network's refusal, from lists with counts: which it is, and what follows where there is none. Assumes nothing.
use Rattle.std.specs.Prelude.{◌≡◌, Bool, false, ◌||◌, cond, List, map, ℕ, ◌+◌, ◌*◌, ◌≤◌, ◌<◌, take, drop, Option, None, Some, Result, Ok, Err}
use Rattle.std.proofs.Math.Path.{refl, sym, ap}
use Rattle.std.proofs.Common.{◌∙◌, arith}
use Rattle.std.proofs.Math.Bool.{true, or-false}
use Rattle.spec.specs.declared.Refusal.{Refusal}
use Rattle.spec.specs.declared.Refusal.TheVariants.{Truncated, WrongTag, TooLarge, Overweight, OutOfRange, Repeated, ShortBuffer, InvalidTree, InvalidFlags, TotalBeyond, DanglingIndex, TableTooWide, DrawsExhausted}
use Rattle.std.proofs.Math.Dec.{ltb}
use Rattle.std.proofs.Math.ListN.{length, get_or}
use borrow.Author.Tests.{lt-ltb, le-ltb, ltb-false}
use Rattle.spec.specs.Lists.{anyb, range}
use Rattle.spec.specs.Refusal.{code_of, number_of, passes, decide}
use Rattle.spec.specs.Network.{Network, leaf_count, index_count, legs, max_leaves, max_indices, max_legs, max_outputs, max_weight, repeats, any_out_of_range, refusal_of, accepting}
use Rattle.spec.specs.NetworkClaims.{Accepted}
use Rattle.spec.specs.Layout.{firsts, row_at, network_of}
use Rattle.laws.specs.Booleans.{or_introl, or_intror, or_none}
use Rattle.laws.specs.ListLaws.{any_ext, memb_at, any_map}
use Rattle.laws.specs.Accepted.{none_at, accepted_means}
use Rattle.laws.specs.LayoutLaws.{map_range_length, firsts_length, firsts_at}
use Rattle.network.specs.Layouts.{firsts-take, firsts_all, layout_leaf_count, layout_index_count, layout_output_count, layout_weight, layout_leg_count, layout_leg, layout_output}
use Rattle.network.specs.Checks.{leaves_of, Rows, Fitting}
use Rattle.network.specs.Lists.{HasRows, lists_net}

-- ---- a count above its limit ----

abbrev pub large : Network → Bool
large N =
    ltb max_leaves (leaf_count N)
    || (ltb max_indices (index_count N) || (anyb (λ l. ltb max_legs (length l)) N.leaves || ltb max_outputs (length N.outputs)))

pub refused_large : (N : Network) → large N ≡ true → refusal_of N ≡ Some TooLarge
refused_large N e = rw e

-- the same of lists with counts

unfoldable pub large_of : (m n o : ℕ) (counts : List ℕ) → Bool
large_of m n o counts = ltb max_leaves n || (ltb max_indices m || (anyb (λ k. ltb max_legs k) (firsts n counts) || ltb max_outputs o))

module _ (m n o : ℕ) (counts : List ℕ) where
  pub large_leaves : max_leaves < n → true ≡ large_of m n o counts
  unfolding large_of
  large_leaves h = sym (rw (lt-ltb max_leaves n h))

  pub large_indices : max_indices < m → true ≡ large_of m n o counts
  unfolding large_of
  large_indices h = sym (or_intror (ltb max_leaves n) _ (or_introl (ltb max_indices m) _ (lt-ltb max_indices m h)))

  pub large_outputs : max_outputs < o → true ≡ large_of m n o counts
  unfolding large_of
  large_outputs h =
      let e : (anyb (λ k. ltb max_legs k) (firsts n counts) || ltb max_outputs o) ≡ true = or_intror (anyb (λ k. ltb max_legs k) (firsts n counts)) (ltb max_outputs o) (lt-ltb max_outputs o h) in
      sym (or_intror (ltb max_leaves n) _ (or_intror (ltb max_indices m) _ e))

  pub large_legs : n ≤ max_leaves → m ≤ max_indices → o ≤ max_outputs → n ≤ length counts → anyb (λ k. ltb max_legs k) (take n counts) ≡ large_of m n o counts
  unfolding large_of
  large_legs a b c h =
      rw (le-ltb max_leaves n a, le-ltb max_indices m b, le-ltb max_outputs o c, firsts-take n counts h)
      (sym (or-false (anyb (λ k. ltb max_legs k) (take n counts))))

-- ---- the four conditions ----

-- an index not below m
unfoldable pub out_of_range_of : (m n o : ℕ) (counts cells outputs : List ℕ) → Bool
out_of_range_of m n o counts cells outputs = anyb (any_out_of_range m) (leaves_of n counts cells) || any_out_of_range m (firsts o outputs)

-- an index repeated
unfoldable pub repeat_of : (n o : ℕ) (counts cells outputs : List ℕ) → Bool
repeat_of n o counts cells outputs = anyb repeats (leaves_of n counts cells) || repeats (firsts o outputs)

module _ (m n : ℕ) (counts cells outputs : List ℕ) where
  pub beyond_leaf : {b : Bool} → b ≡ anyb (any_out_of_range m) (leaves_of n counts cells) → b ≡ true → true ≡ out_of_range_of m n (length outputs) counts cells outputs
  unfolding out_of_range_of
  beyond_leaf e t = sym (or_introl (anyb (any_out_of_range m) (leaves_of n counts cells)) (any_out_of_range m (firsts (length outputs) outputs)) (sym e ∙ t))

  pub beyond_output : {b d : Bool} → b ≡ anyb (any_out_of_range m) (leaves_of n counts cells) → b ≡ false → d ≡ any_out_of_range m outputs → d ≡ out_of_range_of m n (length outputs) counts cells outputs
  unfolding out_of_range_of
  beyond_output e f h = h ∙ rw (sym e ∙ f, firsts_all outputs)

  pub repeat_leaf : {b : Bool} → b ≡ anyb repeats (leaves_of n counts cells) → b ≡ true → true ≡ repeat_of n (length outputs) counts cells outputs
  unfolding repeat_of
  repeat_leaf e t = sym (or_introl (anyb repeats (leaves_of n counts cells)) (repeats (firsts (length outputs) outputs)) (sym e ∙ t))

  pub repeat_output : {b d : Bool} → b ≡ anyb repeats (leaves_of n counts cells) → b ≡ false → d ≡ repeats outputs → d ≡ repeat_of n (length outputs) counts cells outputs
  unfolding repeat_of
  repeat_output e f h = h ∙ rw (sym e ∙ f, firsts_all outputs)

-- the answer, from the four conditions in their order
unfoldable pub answer_from : (large heavy beyond again : Bool) → Result (Unit {0}) Refusal
answer_from large heavy beyond again = cond large (Err TooLarge) (cond heavy (Err Overweight) (cond beyond (Err OutOfRange) (cond again (Err Repeated) (Ok tt))))

answer_first : (a b c d : Bool)
    → decide (cond a (Some TooLarge) (cond b (Some Overweight) (cond c (Some OutOfRange) (cond d (Some Repeated) None)))) (Ok tt) ≡ answer_from a b c d
unfolding answer_from
answer_first true b c d = refl
answer_first false true c d = refl
answer_first false false true d = refl
answer_first false false false true = refl
answer_first false false false false = refl

module _ (m n o : ℕ) (weights counts cells outputs : List ℕ) where
  many_legs : anyb (λ l. ltb max_legs (length l)) (map (row_at counts cells) (range n)) ≡ anyb (λ k. ltb max_legs k) (firsts n counts)
  unfolding firsts
  many_legs =
      any_map (λ l. ltb max_legs (length l)) (row_at counts cells) (range n)
      ∙ any_ext (λ i. ltb max_legs (length (row_at counts cells i))) (λ i. ltb max_legs (get_or counts i 0)) n
      (λ i h. ap (ltb max_legs) (firsts_length (get_or counts i 0) (drop (i * max_legs) cells)))
      ∙ sym (any_map (λ k. ltb max_legs k) (λ i. get_or counts i 0) (range n))

  pub large_layout : large (network_of m n o weights counts cells outputs) ≡ large_of m n o counts
  unfolding network_of large_of
  large_layout =
      let lc : length (map (row_at counts cells) (range n)) ≡ n = map_range_length (row_at counts cells) n in
      let ic : length (firsts m weights) ≡ m = firsts_length m weights in
      let oc : length (firsts o outputs) ≡ o = firsts_length o outputs in
      λ j. ltb max_leaves (lc j) || (ltb max_indices (ic j) || (many_legs j || ltb max_outputs (oc j)))

  -- what the check answers
  pub answer_means :
      accepting (network_of m n o weights counts cells outputs)
      ≡ answer_from (large_of m n o counts) (anyb (λ w. ltb max_weight w) (firsts m weights)) (out_of_range_of m n o counts cells outputs) (repeat_of n o counts cells outputs)
  unfolding network_of out_of_range_of repeat_of leaves_of
  answer_means =
      let N = network_of m n o weights counts cells outputs in
      let ic : length (firsts m weights) ≡ m = firsts_length m weights in
      answer_first
      (large N)
      (anyb (λ w. ltb max_weight w) (firsts m weights))
      (anyb (any_out_of_range (length (firsts m weights))) N.leaves || any_out_of_range (length (firsts m weights)) N.outputs)
      (anyb repeats N.leaves || repeats N.outputs)
      ∙ (λ j. answer_from
      (large_layout j)
      (anyb (λ w. ltb max_weight w) (firsts m weights))
      (anyb (any_out_of_range (ic j)) N.leaves || any_out_of_range (ic j) N.outputs)
      (anyb repeats N.leaves || repeats N.outputs))

-- ---- what follows where none of them holds ----

-- no count is above its limit
pub small : (m n o : ℕ) (counts : List ℕ) → large_of m n o counts ≡ false
    → (n ≤ max_leaves) × (m ≤ max_indices) × (o ≤ max_outputs) × ((i : ℕ) → i < n → get_or counts i 0 ≤ max_legs)
unfolding large_of
small m n o counts e =
    let (a, e₁) = or_none (ltb max_leaves n) _ e in
    let (b, e₂) = or_none (ltb max_indices m) _ e₁ in
    let (c, d) = or_none (anyb (λ k. ltb max_legs k) (firsts n counts)) (ltb max_outputs o) e₂ in (
      ltb-false max_leaves n a,
      ltb-false max_indices m b,
      ltb-false max_outputs o d,
      λ i h. rw (firsts_at n counts i h) at (ltb-false max_legs (get_or (firsts n counts) i 0) (none_at (λ k. ltb max_legs k) 0 (firsts n counts) c i (omega (arith, firsts_length n counts)))),
    )

-- lists of which the first places are in use have these places
pub in_use : (m n o : ℕ) (weights counts cells outputs : List ℕ) → Fitting m n o weights counts cells outputs → large_of m n o counts ≡ false
    → (m ≤ length weights) × (n ≤ length counts) × (o ≤ length outputs) × (n * max_legs ≤ length cells)
in_use m n o weights counts cells outputs l e =
    let (p, q, r, s) = small m n o counts e in
    (l.weight_places q, l.count_places p, l.output_places r, l.leg_places p)

pub positive : (r : Refusal) → 1 ≤ number_of r
positive Truncated = omega arith
positive WrongTag = omega arith
positive TooLarge = omega arith
positive Overweight = omega arith
positive OutOfRange = omega arith
positive Repeated = omega arith
positive ShortBuffer = omega arith
positive InvalidTree = omega arith
positive InvalidFlags = omega arith
positive TotalBeyond = omega arith
positive DanglingIndex = omega arith
positive TableTooWide = omega arith
positive DrawsExhausted = omega arith

-- the number 0 is no refusal's
pub code_zero : (k : Option Refusal) → 0 ≡ code_of k → k ≡ None
code_zero None e = refl
code_zero (Some r) e = absurd (omega (arith, positive r))

-- of an accepted network that lists with counts stand for
pub record Facts (m n o : ℕ) (weights counts cells outputs : List ℕ) : Type 0 where
  pub passed : refusal_of (network_of m n o weights counts cells outputs) ≡ None
  pub accepted : Accepted (network_of m n o weights counts cells outputs)
  pub few_indices : m ≤ max_indices
  pub few_leaves : n ≤ max_leaves
  pub few_outputs : o ≤ max_outputs
  pub few_legs : (i : ℕ) → i < n → get_or counts i 0 ≤ max_legs
  pub weights_fit : (j : ℕ) → j < m → get_or weights j 0 ≤ max_weight
  pub in_range : (i k : ℕ) → i < n → k < get_or counts i 0 → get_or cells (i * max_legs + k) 0 < m
  pub outputs_in_range : (k : ℕ) → k < o → get_or outputs k 0 < m

-- what the check finds on the way, and what it answers then
module _ (weights counts cells outputs : List ℕ) (has : HasRows counts cells) where
  pub rows : {b : Bool} → b ≡ large_of (length weights) (length counts) (length outputs) counts → b ≡ false → Rows (length counts) counts cells
  rows e f =
      let (p, q, r, s) = small _ _ _ counts (sym e ∙ f) in
      record { counted = omega arith; room = has p; few = s }

  -- the answers: the conditions that were tested, each with what its test said
  answer : {a b c d : Bool} → a ≡ large_of (length weights) (length counts) (length outputs) counts → b ≡ anyb (λ w. ltb max_weight w) (firsts (length weights) weights) → c ≡ out_of_range_of (length weights) (length counts) (length outputs) counts cells outputs → d ≡ repeat_of (length counts) (length outputs) counts cells outputs
      → answer_from a b c d ≡ accepting (lists_net weights counts cells outputs)
  answer p q r s = (λ j. answer_from (p j) (q j) (r j) (s j)) ∙ sym (answer_means _ _ _ weights counts cells outputs)

  module _ {a : Bool} (large : a ≡ large_of (length weights) (length counts) (length outputs) counts) where
    pub answer_large : a ≡ true → Err TooLarge ≡ accepting (lists_net weights counts cells outputs)
    unfolding answer_from
    answer_large x = answer (sym x ∙ large) refl refl refl

    module _ {b : Bool} (few : a ≡ false) (heavy : b ≡ anyb (λ w. ltb max_weight w) weights) where
      weights_are : b ≡ anyb (λ w. ltb max_weight w) (firsts (length weights) weights)
      weights_are = heavy ∙ ap (anyb (λ w. ltb max_weight w)) (sym (firsts_all weights))

      pub answer_heavy : b ≡ true → Err Overweight ≡ accepting (lists_net weights counts cells outputs)
      unfolding answer_from
      answer_heavy x = answer (sym few ∙ large) (sym x ∙ weights_are) refl refl

      module _ {c : Bool} (light : b ≡ false) (beyond : c ≡ out_of_range_of (length weights) (length counts) (length outputs) counts cells outputs) where
        pub answer_beyond : c ≡ true → Err OutOfRange ≡ accepting (lists_net weights counts cells outputs)
        unfolding answer_from
        answer_beyond x = answer (sym few ∙ large) (sym light ∙ weights_are) (sym x ∙ beyond) refl

        module _ {d : Bool} (inside : c ≡ false) (again : d ≡ repeat_of (length counts) (length outputs) counts cells outputs) where
          pub answer_repeat : d ≡ true → Err Repeated ≡ accepting (lists_net weights counts cells outputs)
          unfolding answer_from
          answer_repeat x = answer (sym few ∙ large) (sym light ∙ weights_are) (sym inside ∙ beyond) (sym x ∙ again)

          pub answer_none : d ≡ false → Ok tt ≡ accepting (lists_net weights counts cells outputs)
          unfolding answer_from
          answer_none x = answer (sym few ∙ large) (sym light ∙ weights_are) (sym inside ∙ beyond) (sym x ∙ again)

-- the check found nothing
pub passed_facts : (m n o : ℕ) (weights counts cells outputs : List ℕ)
    → refusal_of (network_of m n o weights counts cells outputs) ≡ None
    → Facts m n o weights counts cells outputs
passed_facts m n o weights counts cells outputs p =
    let N = network_of m n o weights counts cells outputs in
    let a : Accepted N = (accepted_means N).0 (ap passes p) in
    let lc : leaf_count N ≡ n = layout_leaf_count m n o weights counts cells outputs in
    let ic : index_count N ≡ m = layout_index_count m n o weights counts cells outputs in
    let oc : length N.outputs ≡ o = layout_output_count m n o weights counts cells outputs in
    record {
      passed = p;
      accepted = a;
      few_indices = omega (arith, a.few_indices);
      few_leaves = omega (arith, a.few_leaves);
      few_outputs = omega (arith, a.few_outputs);
      few_legs = λ i h. omega (arith, a.few_legs i (omega arith), layout_leg_count m n o weights counts cells outputs i h);
      weights_fit = λ j h. omega (arith, a.weights_fit j, layout_weight m n o weights counts cells outputs j h);
      in_range = λ i k h b.
          let q : k < length (legs N i) = omega (arith, layout_leg_count m n o weights counts cells outputs i h) in
          omega (arith, layout_leg m n o weights counts cells outputs i k h b, a.in_range i (get_or (legs N i) k 0) (omega arith) (memb_at (legs N i) k q));
      outputs_in_range = λ k h.
          omega (arith, layout_output m n o weights counts cells outputs k h, a.outputs_in_range (get_or N.outputs k 0) (memb_at N.outputs k (omega arith)));
    }

-- the check found nothing, said by the refusal's number: 0 stands for none
pub accepted_facts : (m n o : ℕ) (weights counts cells outputs : List ℕ)
    → 0 ≡ code_of (refusal_of (network_of m n o weights counts cells outputs))
    → Facts m n o weights counts cells outputs
accepted_facts m n o weights counts cells outputs e = passed_facts m n o weights counts cells outputs (code_zero (refusal_of (network_of m n o weights counts cells outputs)) e)

-- A network's refusal, from lists of which the first places are in use. Assumes nothing.
use Rattle.std.specs.Prelude.{◌≡◌, Bool, true, false, List, ℕ, ◌≤◌, take, length, Ok, Err}
use Rattle.std.proofs.Math.Path.{refl, sym, ap}
use Rattle.std.proofs.Common.{◌∙◌}
use Rattle.std.proofs.Math.Dec.{ltb}
use Rattle.spec.specs.declared.Refusal.TheVariants.{TooLarge, Overweight, OutOfRange, Repeated}
use Rattle.spec.specs.Lists.{anyb}
use Rattle.spec.specs.Network.{max_weight, repeats, any_out_of_range, accepting}
use Rattle.spec.specs.Layout.{firsts, network_of}
use Rattle.laws.specs.Booleans.{or_introl}
use Rattle.network.specs.Layouts.{firsts-take}
use Rattle.network.specs.Checks.{leaves_of, Rows, Fitting}
use Rattle.network.specs.Codes.{large_of, out_of_range_of, repeat_of, answer_from, answer_means, small, in_use}

module _ (m n o : ℕ) (counts cells outputs : List ℕ) (fit : o ≤ length outputs) where
  pub beyond_leaf : {b : Bool} → b ≡ anyb (any_out_of_range m) (leaves_of n counts cells) → b ≡ true → true ≡ out_of_range_of m n o counts cells outputs
  unfolding out_of_range_of
  beyond_leaf e t = sym (or_introl (anyb (any_out_of_range m) (leaves_of n counts cells)) (any_out_of_range m (firsts o outputs)) (sym e ∙ t))

  pub beyond_output : {b d : Bool} → b ≡ anyb (any_out_of_range m) (leaves_of n counts cells) → b ≡ false → d ≡ any_out_of_range m (take o outputs) → d ≡ out_of_range_of m n o counts cells outputs
  unfolding out_of_range_of
  beyond_output e f h = h ∙ rw (sym e ∙ f, firsts-take o outputs fit)

  pub repeat_leaf : {b : Bool} → b ≡ anyb repeats (leaves_of n counts cells) → b ≡ true → true ≡ repeat_of n o counts cells outputs
  unfolding repeat_of
  repeat_leaf e t = sym (or_introl (anyb repeats (leaves_of n counts cells)) (repeats (firsts o outputs)) (sym e ∙ t))

  pub repeat_output : {b d : Bool} → b ≡ anyb repeats (leaves_of n counts cells) → b ≡ false → d ≡ repeats (take o outputs) → d ≡ repeat_of n o counts cells outputs
  unfolding repeat_of
  repeat_output e f h = h ∙ rw (sym e ∙ f, firsts-take o outputs fit)

-- what the check finds on the way, and what it answers then
module _ (m n o : ℕ) (weights counts cells outputs : List ℕ) (l : Fitting m n o weights counts cells outputs) where
  pub rows : {b : Bool} → b ≡ large_of m n o counts → b ≡ false → Rows n counts cells × (o ≤ length outputs)
  rows e f =
      let (p, q, r, s) = small m n o counts (sym e ∙ f) in
      (record { counted = l.count_places p; room = l.leg_places p; few = s }, l.output_places r)

  pub weighed : {b : Bool} → b ≡ large_of m n o counts → b ≡ false → m ≤ length weights
  weighed e f = (in_use m n o weights counts cells outputs l (sym e ∙ f)).0

  -- the answers: the conditions that were tested, each with what its test said
  answer : {a b c d : Bool} → a ≡ large_of m n o counts → b ≡ anyb (λ w. ltb max_weight w) (firsts m weights) → c ≡ out_of_range_of m n o counts cells outputs → d ≡ repeat_of n o counts cells outputs
      → answer_from a b c d ≡ accepting (network_of m n o weights counts cells outputs)
  answer p q r s = (λ j. answer_from (p j) (q j) (r j) (s j)) ∙ sym (answer_means m n o weights counts cells outputs)

  module _ {a : Bool} (large : a ≡ large_of m n o counts) where
    pub answer_large : a ≡ true → Err TooLarge ≡ accepting (network_of m n o weights counts cells outputs)
    unfolding answer_from
    answer_large x = answer (sym x ∙ large) refl refl refl

    module _ {b : Bool} (few : a ≡ false) (heavy : b ≡ anyb (λ w. ltb max_weight w) (take m weights)) where
      weights_are : b ≡ anyb (λ w. ltb max_weight w) (firsts m weights)
      weights_are = heavy ∙ ap (anyb (λ w. ltb max_weight w)) (sym (firsts-take m weights (weighed large few)))

      pub answer_heavy : b ≡ true → Err Overweight ≡ accepting (network_of m n o weights counts cells outputs)
      unfolding answer_from
      answer_heavy x = answer (sym few ∙ large) (sym x ∙ weights_are) refl refl

      module _ {c : Bool} (light : b ≡ false) (beyond : c ≡ out_of_range_of m n o counts cells outputs) where
        pub answer_beyond : c ≡ true → Err OutOfRange ≡ accepting (network_of m n o weights counts cells outputs)
        unfolding answer_from
        answer_beyond x = answer (sym few ∙ large) (sym light ∙ weights_are) (sym x ∙ beyond) refl

        module _ {d : Bool} (inside : c ≡ false) (again : d ≡ repeat_of n o counts cells outputs) where
          pub answer_repeat : d ≡ true → Err Repeated ≡ accepting (network_of m n o weights counts cells outputs)
          unfolding answer_from
          answer_repeat x = answer (sym few ∙ large) (sym light ∙ weights_are) (sym inside ∙ beyond) (sym x ∙ again)

          pub answer_none : d ≡ false → Ok tt ≡ accepting (network_of m n o weights counts cells outputs)
          unfolding answer_from
          answer_none x = answer (sym few ∙ large) (sym light ∙ weights_are) (sym inside ∙ beyond) (sym x ∙ again)

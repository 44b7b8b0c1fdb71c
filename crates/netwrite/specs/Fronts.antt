-- The bytes of a network's fields, put one list after another, from lists of which the first places are in use. Assumes nothing.
use Rattle.std.specs.Prelude.{◌≡◌, ℕ, ◌+◌, ◌≤◌, ◌<◌, length, take}
use Rattle.std.proofs.Common.{sym, arith, length-take-le, get_or-take}
use Rattle.std.proofs.Math.Path.{subst}
use mathlib.Core.List.{List, ◌++◌}
use Rattle.spec.specs.Layout.{firsts, network_of}
use Rattle.spec.specs.File.{field, leaf_fields}
use Rattle.spec.specs.FileClaims.{Bytes}
use Rattle.laws.specs.FileBytes.{all_bytes}
use Rattle.network.specs.Layouts.{firsts-take}
use Rattle.network.specs.Checks.{Fitting, leaves_of}
use Rattle.network.specs.Codes.{Facts}
use Rattle.putfields.specs.Put.{Put, put_both, put_length}
use Rattle.putfields.specs.Leaves.{Leaves, leaf_bytes, leaf_fields_length}
use Rattle.netwrite.specs.Contents.{network_fields}
use Rattle.netwrite.specs.Sizes.{network_fields_length}

module _ {m n o : ℕ} {weights counts cells outputs : List ℕ} (l : Fitting m n o weights counts cells outputs) (f : Facts m n o weights counts cells outputs) where
  pub weights_length : length (take m weights) ≡ m
  weights_length = length-take-le m weights (l.weight_places f.few_indices)

  pub outputs_length : length (take o outputs) ≡ o
  outputs_length = length-take-le o outputs (l.output_places f.few_outputs)

  leaves : Leaves n counts cells
  leaves =
      record {
        rows = record { counted = l.count_places f.few_leaves; room = l.leg_places f.few_leaves; few = f.few_legs };
        small = λ i k h b. omega (arith, f.in_range i k h b, f.few_indices);
      }

  pub outputs_bytes : Bytes (take o outputs)
  outputs_bytes =
      all_bytes (take o outputs) (λ k b.
      let h : k < o = omega (arith, outputs_length) in
      omega (arith, get_or-take o outputs k 0 h, f.outputs_in_range k h, f.few_indices))

  -- there is room for each field
  module _ (d : List ℕ) (at : ℕ) (room : at + length (network_fields (network_of m n o weights counts cells outputs)) ≤ length d) where
    bytes : at + (6 + m + o + leaf_bytes n counts) ≤ length d
    bytes = omega (arith, room, network_fields_length m n o weights counts cells outputs)

    pub weights_room : (length (take m weights) < 65536) × (at + 3 + length (take m weights) ≤ length d)
    weights_room = (omega (arith, weights_length, f.few_indices), omega (arith, weights_length, bytes))

    module _ {o₁ : List ℕ} {x : ℕ} (p : Put d o₁ at x (field 1 (take m weights))) where
      pub leaves_room : Leaves n counts cells × (x + length (leaf_fields (leaves_of n counts cells)) ≤ length o₁)
      leaves_room = (leaves, omega (arith, bytes, leaf_fields_length counts cells n, weights_length, p.past, put_length p))

      module _ {o₂ : List ℕ} {y : ℕ} (q : Put o₁ o₂ x y (leaf_fields (leaves_of n counts cells))) where
        pub outputs_room : (length (take o outputs) < 65536) × (y + 3 + length (take o outputs) ≤ length o₂) × Bytes (take o outputs)
        outputs_room = (
          omega (arith, outputs_length, f.few_outputs),
          omega (arith, bytes, leaf_fields_length counts cells n, weights_length, outputs_length, p.past, put_length p, q.past, put_length q),
          outputs_bytes,
        )

        -- all three
        pub network_put : {o₃ : List ℕ} {z : ℕ} → Put o₂ o₃ y z (field 3 (take o outputs)) → Put d o₃ at z (network_fields (network_of m n o weights counts cells outputs))
        unfolding network_fields network_of leaves_of
        network_put {o₃} {z} r =
            subst (λ (w : List ℕ). Put d o₃ at z (field 1 w ++ (leaf_fields (leaves_of n counts cells) ++ field 3 (firsts o outputs)))) (sym (firsts-take m weights (l.weight_places f.few_indices)))
            (subst (λ (u : List ℕ). Put d o₃ at z (field 1 (take m weights) ++ (leaf_fields (leaves_of n counts cells) ++ field 3 u))) (sym (firsts-take o outputs (l.output_places f.few_outputs)))
            (put_both p (put_both q r)))

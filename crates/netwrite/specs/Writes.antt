-- The bytes of the file, put one list after another. Assumes nothing.
use Rattle.std.specs.Prelude.{ℕ, ◌+◌, ◌≤◌, ◌<◌, length, take, Option, None, Some}
use Rattle.std.proofs.Math.Seq.{take-length}
use mathlib.Core.List.{List}
use Rattle.spec.specs.File.{Ask, plain, flagged, target, field, leaf_fields}
use Rattle.spec.specs.FileClaims.{Bytes}
use Rattle.network.specs.Lists.{Holds}
use Rattle.network.specs.Views.{net_in, in_facts}
use Rattle.network.specs.declared.accepted.Accepted.{Accepted}
use Rattle.putfields.specs.Put.{Put}
use Rattle.putfields.specs.Leaves.{leaves_are}
use Rattle.netwrite.specs.Contents.{network_fields}
use Rattle.netwrite.specs.Sizes.{in_fitting}
use Rattle.netwrite.specs.Fronts.{outputs_bytes as front_bytes, weights_room as front_weights_room, leaves_room as front_leaves_room, outputs_room as front_outputs_room, network_put as front_network_put}

-- the tree's children fit a field of bytes
abbrev pub KidsFit : Option (List ℕ) → Type 0
KidsFit None = Unit {0}
KidsFit (Some kids) = (length kids < 65536) × Bytes kids

-- what is asked fits a field
abbrev pub AskFits : Ask → Type 0
AskFits plain = Unit {0}
AskFits (flagged l) = length l < 65536
AskFits (target w) = Unit {0}

-- ---- the network's fields: the lists of an accepted one are as long as its counts ----

module _ (a : Accepted) (h : Holds a.weights.now a.leg_counts.now a.legs.now a.outputs.now) where
  pub outputs_bytes : Bytes a.outputs.now
  outputs_bytes = rw (take-length a.outputs.now) at (front_bytes (in_fitting a h) (in_facts a h))

  -- there is room for each field
  module _ (d : List ℕ) (at : ℕ) (room : at + length (network_fields (net_in a)) ≤ length d) where
    pub weights_room : (length a.weights.now < 65536) × (at + 3 + length a.weights.now ≤ length d)
    weights_room = rw (take-length a.weights.now) at (front_weights_room (in_fitting a h) (in_facts a h) d at room)

    module _ {o₁ : List ℕ} {x : ℕ} (p : Put d o₁ at x (field 1 a.weights.now)) where
      front : Put d o₁ at x (field 1 (take (length a.weights.now) a.weights.now))
      front = rw (take-length a.weights.now) p

      pub leaves_room : x + length (leaf_fields (net_in a).leaves) ≤ length o₁
      leaves_room = rw (leaves_are a) (front_leaves_room (in_fitting a h) (in_facts a h) d at room front).1

      module _ {o₂ : List ℕ} {y : ℕ} (q : Put o₁ o₂ x y (leaf_fields (net_in a).leaves)) where
        pub outputs_room : (length a.outputs.now < 65536) × (y + 3 + length a.outputs.now ≤ length o₂) × Bytes a.outputs.now
        outputs_room = rw (take-length a.outputs.now) at (front_outputs_room (in_fitting a h) (in_facts a h) d at room front (rw (leaves_are a) at q))

        -- all three
        pub network_put : {o₃ : List ℕ} {z : ℕ} → Put o₂ o₃ y z (field 3 a.outputs.now) → Put d o₃ at z (network_fields (net_in a))
        network_put r = front_network_put (in_fitting a h) (in_facts a h) d at room front (rw (leaves_are a) at q) (rw (take-length a.outputs.now) r)

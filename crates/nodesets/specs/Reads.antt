-- What lent lists say of a network's leaves and outputs, as members. Assumes nothing.
use Rattle.std.specs.Prelude.{◌≡◌, List, ℕ, ◌*◌, ◌<◌, get_or}
use Rattle.std.proofs.Common.{sym, ◌∙◌, ap}
use Rattle.slots.specs.Writes.{among, memb-firsts, leaf_has}
use Rattle.spec.specs.Lists.{memb}
use Rattle.spec.specs.Layout.{network_of}
use Rattle.spec.specs.Network.{legs}
use Rattle.network.specs.Layouts.{layout_legs, layout_outputs}

module _ (m n o : ℕ) (weights counts rows outputs : List ℕ) where
  pub reads_leaf : (i j : ℕ) → i < n → leaf_has counts rows i j ≡ memb j (legs (network_of m n o weights counts rows outputs) i)
  reads_leaf i j h =
      sym (memb-firsts rows (i * 32) (get_or counts i 0) j) ∙ ap (memb j) (sym (layout_legs m n o weights counts rows outputs i h))

  pub reads_output : (j : ℕ) → among outputs 0 o j ≡ memb j (network_of m n o weights counts rows outputs).outputs
  reads_output j = sym (memb-firsts outputs 0 o j) ∙ ap (memb j) (sym (layout_outputs m n o weights counts rows outputs))

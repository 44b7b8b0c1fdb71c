-- What pricing leaves is the price list. Assumes nothing.
use Rattle.std.specs.Prelude.{Bool, List, map, ◌≡◌, ℕ, ◌*◌, ◌≤◌, length}
use Rattle.std.proofs.Common.{ap, ◌∙◌, arith}
use Rattle.spec.specs.Lists.{memb, range}
use Rattle.spec.specs.Network.{Network}
use Rattle.spec.specs.Tree.{pairs_of}
use Rattle.spec.specs.Price.{list_at, size_at, work_at}
use Rattle.spec.specs.Calls.{node_places}
use Rattle.slots.specs.Slots.{held}
use Rattle.cells.specs.Cells.{over_length}
use Rattle.nodesets.specs.Sets.{held-with_sets, with_sets_length}
use Rattle.nodebits.specs.Stepped.{over_front}
use Rattle.network.specs.Views.{net_in, in_facts, in_leaves}
use Rattle.network.specs.Lists.{Holds}
use Rattle.network.specs.declared.accepted.Accepted.{Accepted}
use Rattle.pricing.specs.Promise.{Filled}
use Rattle.reprice.specs.Held.{PriceHeld}

pub filled_held : {N : Network} {flag : ℕ → Bool} {kids sets₀ sizes₀ works₀ sets sizes works : List ℕ} → Filled 4 N flag (pairs_of kids) sets₀ sizes₀ works₀ sets sizes works
    → node_places N * 4 ≤ length sets₀ → node_places N ≤ length sizes₀ → node_places N ≤ length works₀ → PriceHeld N flag kids sets sizes works
filled_held {N} {flag} {kids} {sets₀} {sizes₀} {works₀} {sets} {sizes} {works} f room fits_sizes fits_works =
    record {
      sets_are = λ v j h b. ap (λ (l : List ℕ). held l 4 v j) f.sets_are ∙ held-with_sets sets₀ 4 (λ v j. memb j (list_at N (pairs_of kids) v)) (node_places N) v j room h (omega arith);
      sizes_are = λ v h. over_front sizes₀ sizes (size_at N flag (pairs_of kids)) (node_places N) fits_sizes f.sizes_are v h;
      works_are = λ v h. over_front works₀ works (work_at N flag (pairs_of kids)) (node_places N) fits_works f.works_are v h;
    }

-- the lists are as long as they were
pub filled_long : {N : Network} {flag : ℕ → Bool} (kids : List ℕ) {sets₀ sizes₀ works₀ sets sizes works : List ℕ} → Filled 4 N flag (pairs_of kids) sets₀ sizes₀ works₀ sets sizes works
    → (length sets ≡ length sets₀) × (length sizes ≡ length sizes₀) × (length works ≡ length works₀)
filled_long {N} {flag} kids {sets₀} {sizes₀} {works₀} {sets} {sizes} {works} f = (
  ap length f.sets_are ∙ with_sets_length sets₀ 4 (λ v j. memb j (list_at N (pairs_of kids) v)) (node_places N),
  ap length f.sizes_are ∙ over_length sizes₀ (map (size_at N flag (pairs_of kids)) (range (node_places N))),
  ap length f.works_are ∙ over_length works₀ (map (work_at N flag (pairs_of kids)) (range (node_places N))),
)

-- a network of at most 128 leaves has at most 255 nodes
pub few_places : (a : Accepted) → Holds a.weights.now a.leg_counts.now a.legs.now a.outputs.now → node_places (net_in a) ≤ 255
few_places a h = omega (arith, (in_facts a h).few_leaves, in_leaves a)

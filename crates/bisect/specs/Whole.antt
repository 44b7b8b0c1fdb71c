-- The hypergraph of some leaves of a network, in slots. Assumes nothing.
use Rattle.std.specs.Prelude.{Bool, true, false, ◌&&◌, ◌≡◌, refl, List, [], ◌∷◌, map, ℕ, ◌+◌, ◌*◌, ◌≤◌, ◌<◌, ltb, Float, length, get_or}
use Rattle.std.proofs.Common.{sym, ap₂, ◌∙◌, subst, arith}
use Rattle.std.proofs.Math.Path.{ap}
use borrow.Author.Tests.{lt-ltb, le-ltb, ltb-true}
use Rattle.spec.specs.Lists.{memb, range}
use Rattle.spec.specs.Memory.{filled}
use Rattle.spec.specs.Floats.{zero_float, whole_float}
use Rattle.spec.specs.Network.{Network, index_count, weight}
use Rattle.spec.specs.NetworkClaims.{Accepted}
use Rattle.spec.specs.Hypergraph.{Net, nets≥2, net_of, nets_over, ones, hypergraph_of}
use Rattle.laws.specs.Booleans.{and_left}
use Rattle.laws.specs.ListLaws.{keep_ext, memb_at}
use Rattle.network.specs.Layouts.{map-range_ext}
use Rattle.greedynodes.specs.Lends.{Lends}
use Rattle.partition.specs.Layout.{net_in, graph_in}
use Rattle.matching.specs.Meshed.{Meshed}
use Rattle.mesh.specs.Stays.{Stays, stays_then, stays_wider}
use Rattle.mesh.specs.Fronts.{rising_front}
use Rattle.mesh.specs.Compact.{Within}
use Rattle.mesh.specs.Mesh.{Built}
use Rattle.slots.specs.Writes.{leaf_has}
use Rattle.bisect.specs.Raw.{among_at, raw, Raws, raws}

-- lent lists stand for a network, and the leaves of a list are some of its leaves
pub record Names (N : Network) (weights counts legs leaves : List ℕ) : Type 0 where
  pub n : ℕ
  pub outputs : List ℕ
  pub lends : Lends N n weights counts legs outputs
  pub accepted : Accepted N
  pub leaf : (l : ℕ) → memb l leaves ≡ true → l < n

-- the hypergraph in ws', of m' nets, is that of the leaves
pub record IsOf (N : Network) (leaves ws : List ℕ) (nets vertices m : ℕ) (ws' weights' : List ℕ) (m' : ℕ) (vw' : List Float) : Type 0 where
  pub few : m' ≤ m
  pub graph_is : graph_in ws' nets weights' m' vw' ≡ hypergraph_of N leaves
  pub meshed : Meshed ws' nets vertices m' (length leaves)
  pub within : Within ws' nets m' (length leaves)
  pub stays : Stays (nets * 2) ((vertices + 128) * 4) ws ws'

-- ---- lists ----

nets_over_lem : (N : Network) (leaves js : List ℕ) → nets_over N leaves js ≡ map (net_of N leaves) js
nets_over_lem N leaves [] = refl
nets_over_lem N leaves (j ∷ js) = ap (λ l. net_of N leaves j ∷ l) (nets_over_lem N leaves js)

all_ones : (leaves : List ℕ) → filled (length leaves) (whole_float 1) ≡ ones leaves
unfolding filled
all_ones [] = refl
all_ones (l ∷ ls) = ap (λ k. whole_float 1 ∷ k) (all_ones ls)

-- ---- the whole ----

module _ (N : Network) (weights counts legs leaves : List ℕ) (h : Names N weights counts legs leaves) (ws ws₁ ws₂ : List ℕ) (nets vertices : ℕ)
    (weights' : List ℕ) (m' : ℕ) (vw vw' : List Float) (few : (length weights ≤ 256) × (length leaves ≤ 128)) (same : length vw ≡ length leaves)
    (apart : nets + 256 ≤ vertices * 2) (room : (vertices + 128) * 4 ≤ length ws)
    (er : ws₁ ≡ raw nets counts legs leaves ws (length leaves))
    (eb : Built ws₁ nets vertices weights (length weights) (length leaves) ws₂ weights' m')
    (ev : vw' ≡ filled (length vw) (whole_float 1)) where
  leaf_at : (v : ℕ) → v < length leaves → get_or leaves v 0 < h.n
  leaf_at v b = h.leaf (get_or leaves v 0) (memb_at leaves v b)

  indices : index_count N ≡ length weights
  indices = ap length (sym h.lends.weighed)

  low : (v k : ℕ) → v < length leaves → k < get_or counts (get_or leaves v 0) 0 → get_or legs (get_or leaves v 0 * 32 + k) 0 < 256
  low v k b c =
      let l : ℕ = get_or leaves v 0 in
      let j : ℕ = get_or legs (l * 32 + k) 0 in
      let q : j < index_count N = h.accepted.in_range l j (omega (arith, leaf_at v b, h.lends.leaves))
      (sym (h.lends.legs_are l j (leaf_at v b)) ∙ among_at legs (l * 32) (get_or counts l 0) k c) in
      omega (arith, indices, few.0)

  r : Raws nets counts legs leaves ws (length leaves) ws₁
  r = subst (Raws nets counts legs leaves ws (length leaves)) (sym er) (raws nets counts legs leaves ws (length leaves) low (omega arith))

  abbrev pin : ℕ → ℕ → Bool
  pin j x = ltb x (length leaves) && leaf_has counts legs (get_or leaves x 0) j

  no_pin : (j x : ℕ) → length leaves ≤ x → pin j x ≡ false
  no_pin j x b = ap (λ t. t && leaf_has counts legs (get_or leaves x 0) j) (le-ltb x (length leaves) b)

  net_is : (j : ℕ) → j < length weights → net_in ws₁ nets weights j ≡ net_of N leaves j
  net_is j b =
      ap₂ (λ (p : List ℕ) (w : ℕ). net_with p w)
      (rising_front ws₁ 2 (nets + j) (length leaves) (pin j) few.1 (λ x c. r.holds j x (omega (arith, few.0)) c) (no_pin j)
      ∙ keep_ext (pin j) (λ v. memb j (Rattle.spec.specs.Network.legs N (get_or leaves v 0))) (length leaves)
      (λ x c. ap (λ t. t && leaf_has counts legs (get_or leaves x 0) j) (lt-ltb x (length leaves) c) ∙ h.lends.legs_are (get_or leaves x 0) j (leaf_at x c)))
      (ap (λ l. get_or l j 0) h.lends.weighed)
    where
      net_with : List ℕ → ℕ → Net
      net_with p w = record { pins = p; weight = whole_float w }

  nets_are : map (net_in ws₂ nets weights') (range m') ≡ nets≥2 (nets_over N leaves (range (index_count N)))
  nets_are =
      eb.nets_are
      ∙ ap nets≥2 (map-range_ext (record { pins = []; weight = zero_float }) (net_in ws₁ nets weights) (net_of N leaves) (length weights) net_is
      ∙ ap (λ (k : ℕ). map (net_of N leaves) (range k)) (sym indices) ∙ sym (nets_over_lem N leaves (range (index_count N))))

  -- THE HYPERGRAPH OF THE LEAVES
  pub is_of : IsOf N leaves ws nets vertices (length weights) ws₂ weights' m' vw'
  unfolding graph_in hypergraph_of
  is_of =
      record {
        few = eb.few;
        graph_is = λ i. record { weights = (ev ∙ ap (λ (k : ℕ). filled k (whole_float 1)) same ∙ all_ones leaves) i; nets = nets_are i };
        meshed = eb.meshed;
        within = eb.within (λ j v b c q. ltb-true v (length leaves)
            (and_left (ltb v (length leaves)) (leaf_has counts legs (get_or leaves v 0) j) (sym (r.holds j v (omega (arith, few.0)) c) ∙ q)));
        stays = stays_then _ _ ws ws₁ ws₂ (stays_wider _ _ _ _ ws ws₁ (omega arith) (omega arith) r.stays) eb.stays;
      }

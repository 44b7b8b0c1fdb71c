-- A hypergraph in slots, whole: the nets of two pins or more of those that stand in the nets' slots, and the nets of each vertex. Assumes nothing.
use Rattle.std.specs.Prelude.{◌≡◌, List, [], map, ℕ, ◌+◌, ◌*◌, ◌≤◌, ◌<◌, length, get_or}
use Rattle.std.proofs.Common.{sym, ap, ◌∙◌, subst, arith}
use Rattle.spec.specs.Lists.{range}
use Rattle.spec.specs.Floats.{zero_float, whole_float}
use Rattle.spec.specs.Hypergraph.{Net, nets≥2}
use Rattle.network.specs.Layouts.{map-range_ext}
use Rattle.partition.specs.Layout.{net_in}
use Rattle.matching.specs.Meshed.{Meshed}
use Rattle.slots.specs.Rising.{held_same, rising_same}
use Rattle.mesh.specs.Stays.{Stays, stays_then, stays_wider}
use Rattle.mesh.specs.Crossed.{crossed, crossed_meshed, crossed_stays}
use Rattle.mesh.specs.Compact.{kept_of, compacted, Compacts, compacts, Within}

-- from the raw nets in ws, m of them, to the hypergraph of r nets and n vertices in ws'
pub record Built (ws : List ℕ) (nets vertices : ℕ) (weights : List ℕ) (m n : ℕ) (ws' weights' : List ℕ) (r : ℕ) : Type 0 where
  pub few : r ≤ m
  pub nets_are : map (net_in ws' nets weights') (range r) ≡ nets≥2 (map (net_in ws nets weights) (range m))
  pub meshed : Meshed ws' nets vertices r n
  pub within : Within ws nets m n → Within ws' nets r n
  pub stays : Stays (nets * 2) ((vertices + 128) * 4) ws ws'

module _ (ws ws₁ ws₂ : List ℕ) (nets vertices : ℕ) (weights start weights' : List ℕ) (m n r : ℕ)
    (few : (m ≤ 256) × (n ≤ 128)) (long : m ≤ length start) (apart : nets + 256 ≤ vertices * 2) (room : (vertices + 128) * 4 ≤ length ws)
    (e : kept_of ws₁ weights' r ≡ compacted nets weights (kept_of ws start 0) m) (f : ws₂ ≡ crossed nets vertices n ws₁ r) where
  made : Compacts ws nets weights start m m (kept_of ws₁ weights' r)
  made = subst (Compacts ws nets weights start m m) (sym e) (compacts ws nets weights start m (few.0, long) (omega arith))

  fewer : (r ≤ 256) × (n ≤ 128)
  fewer = (omega (arith, made.few, few.0), few.1)

  crossing : Stays (vertices * 4) ((vertices + 128) * 4) ws₁ ws₂
  crossing = subst (Stays (vertices * 4) ((vertices + 128) * 4) ws₁) (sym f) (crossed_stays nets vertices ws₁ n r fewer apart (omega (arith, made.stays.same)))

  same_net : (i : ℕ) → i < r → net_in ws₂ nets weights' i ≡ net_in ws₁ nets weights' i
  same_net i l = ap (λ p. net_with p) (rising_same ws₁ ws₂ _ crossing.below 2 (nets + i) (omega (arith, fewer.0)))
    where
      net_with : List ℕ → Net
      net_with p = record { pins = p; weight = whole_float (get_or weights' i 0) }

  pub built : Built ws nets vertices weights m n ws₂ weights' r
  built =
      record {
        few = made.few;
        nets_are = map-range_ext (record { pins = []; weight = zero_float }) (net_in ws₂ nets weights') (net_in ws₁ nets weights') r same_net ∙ made.nets_are;
        meshed = subst (λ t. Meshed t nets vertices r n) (sym f) (crossed_meshed nets vertices ws₁ n r fewer apart (omega (arith, made.stays.same)));
        within = λ w i v l b q. made.inside n w i v l b (sym (held_same ws₁ ws₂ _ crossing.below 2 (nets + i) (omega (arith, fewer.0)) v b) ∙ q);
        stays = stays_then _ _ ws ws₁ ws₂ (stays_wider _ _ _ _ ws ws₁ (omega arith) (omega arith) made.stays) (stays_wider _ _ _ _ ws₁ ws₂ (omega arith) (omega arith) crossing);
      }

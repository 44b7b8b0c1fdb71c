-- A hypergraph in slots, with three slots of two words behind it: the two sides of a partition, and the vertices that have moved. What is
-- written there leaves the hypergraph as it was. Assumes nothing.
use Rattle.std.specs.Prelude.{Bool, ◌&&◌, ◌≡◌, refl, ℕ, zero, suc, ◌+◌, ◌*◌, ◌≤◌, ◌<◌, ltb, Float, length, get_or}
use Rattle.std.proofs.Common.{sym, ◌∙◌, arith, ltb-true}
use Rattle.std.proofs.Math.Path.{ap}
use mathlib.Core.List.{List, ◌∷◌, map}
use Rattle.spec.specs.Lists.{from}
use Rattle.spec.specs.Hypergraph.{Net}
use Rattle.laws.specs.Booleans.{by_cases}
use Rattle.slots.specs.Slots.{held, with_set, with_set_length, with_set_outside}
use Rattle.slots.specs.Rising.{rising_of, held_same, rising_same}
use Rattle.partition.specs.Layout.{net_in, graph_in, Within}
use Rattle.partition.specs.declared.place.Place.{Place}
use Rattle.matching.specs.Meshed.{Meshed}

-- the first k words stay
pub record Kept (k : ℕ) (ws ws' : List ℕ) : Type 0 where
  pub same : (i : ℕ) → i < k → get_or ws' i 0 ≡ get_or ws i 0
  pub long : length ws' ≡ length ws

pub kept_all : (k : ℕ) (ws : List ℕ) → Kept k ws ws
kept_all k ws = record { same = λ i h. refl; long = refl }

pub kept_then : (k : ℕ) (a b c : List ℕ) → Kept k a b → Kept k b c → Kept k a c
kept_then k a b c p q = record { same = λ i h. q.same i h ∙ p.same i h; long = q.long ∙ p.long }

pub kept_with : (k : ℕ) (ws : List ℕ) (s : ℕ) (p : ℕ → Bool) → k ≤ s * 2 → Kept k ws (with_set ws 2 s p)
kept_with k ws s p h = record { same = λ i b. with_set_outside ws 2 s p i (λ j l e. omega arith); long = with_set_length ws 2 s p }

module _ (k : ℕ) (ws ws' : List ℕ) (h : Kept k ws ws') where
  nets_kept : (nets m : ℕ) (weights : List ℕ) (a n : ℕ) → (nets + m) * 2 ≤ k → a + n ≤ m → map (net_in ws' nets weights) (from a n) ≡ map (net_in ws nets weights) (from a n)
  nets_kept nets m weights a zero b l = refl
  nets_kept nets m weights a (suc n) b l =
      let e : rising_of ws' 2 (nets + a) ≡ rising_of ws 2 (nets + a) = rising_same ws ws' k h.same 2 (nets + a) (omega arith) in
      (λ i. record { pins = e i; weight = (net_in ws nets weights a).weight } ∷ nets_kept nets m weights (suc a) n b (omega arith) i)

  -- THE HYPERGRAPH STAYS
  pub graph_kept : (nets m : ℕ) (weights : List ℕ) (vw : List Float) → (nets + m) * 2 ≤ k → graph_in ws' nets weights m vw ≡ graph_in ws nets weights m vw
  unfolding graph_in
  graph_kept nets m weights vw b = ap (λ (l : List Net). record { weights = vw; nets = l }) (nets_kept nets m weights 0 m b (omega arith))

-- a hypergraph with the three slots behind it
pub record Site (ws : List ℕ) (o : Place) : Type 0 where
  pub low : (o.nets < 32768) × (o.vertices < 32768) × (o.sides < 32766)
  pub mesh : Meshed ws o.nets o.vertices o.net_count o.vertex_count
  pub within : Within ws o.nets o.net_count o.vertex_count
  pub behind : (o.nets + o.net_count ≤ o.sides) × ((o.vertices + o.vertex_count) * 2 ≤ o.sides) × (o.sides * 2 + 6 ≤ length ws)

pub site_kept : (ws ws' : List ℕ) (o : Place) → Site ws o → Kept (o.sides * 2) ws ws' → Site ws' o
site_kept ws ws' o h k =
    record {
      low = h.low;
      mesh = record {
        few = h.mesh.few;
        crossed = λ v e b l. held_same ws ws' (o.sides * 2) k.same 4 (o.vertices + v) (omega (arith, h.behind.1)) e l ∙ h.mesh.crossed v e b l ∙ sym (crossed v e b l);
      };
      within = λ e v b l p. h.within e v b l (sym (held_same ws ws' (o.sides * 2) k.same 2 (o.nets + e) (omega (arith, h.behind.0)) v l) ∙ p);
      behind = (h.behind.0, h.behind.1, omega (arith, h.behind.2, k.long));
    }
  where
    crossed : (v e : ℕ) → v < o.vertex_count → e < 256 → (ltb e o.net_count && held ws' 2 (o.nets + e) v) ≡ (ltb e o.net_count && held ws 2 (o.nets + e) v)
    crossed v e b l =
        by_cases (ltb e o.net_count)
        (λ t. rw (t, held_same ws ws' (o.sides * 2) k.same 2 (o.nets + e) (omega (arith, h.behind.0, ltb-true e o.net_count t)) v (omega (arith, h.mesh.few.1))))
        (λ t. rw t)

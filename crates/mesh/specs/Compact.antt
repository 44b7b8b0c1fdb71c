-- The nets of two pins or more, moved together. Assumes nothing.
use Rattle.std.specs.Prelude.{Bool, true, false, ◌||◌, cond, ◌≡◌, leb, length, set}
use Rattle.std.proofs.Math.Bool.{or_self}
use Rattle.std.proofs.Math.Path.{refl, ap₂}
use Rattle.std.proofs.Common.{sym, ap, ◌∙◌, arith, add-one, length-set, le-leb}
use mathlib.Core.List.{List, [], ◌∷◌, ◌++◌, map, append-nil}
use Prim.Native.Nat.{ℕ, zero, suc, ◌+◌, ◌*◌, ◌≤◌, ◌<◌}
use Rattle.std.proofs.Math.Decide.{ℕ_discrete}
use Rattle.std.proofs.Math.ListN.{get_or}
use Rattle.std.proofs.Math.Seq.{get_or-set_same, get_or-set_other}
use Rattle.std.proofs.lemmas.Bool.{lt-leb}
use Rattle.spec.specs.Lists.{range}
use Rattle.spec.specs.Floats.{zero_float, whole_float}
use Rattle.spec.specs.Hypergraph.{Net, nets≥2}
use Rattle.laws.specs.Booleans.{by_cases}
use Rattle.laws.specs.ListLaws.{keep_ext, keep_append}
use Rattle.laws.specs.LayoutLaws.{map-range_more}
use Rattle.cells.specs.Loop.{turns, turns_invariant}
use Rattle.network.specs.Layouts.{map-range_ext}
use Rattle.slots.specs.Slots.{held, with_set, with_set_length, held_with, held_with_other}
use Rattle.slots.specs.Rising.{rising_of}
use Rattle.partition.specs.Layout.{net_in}
pub use Rattle.partition.specs.Layout.{Within}
use Rattle.mesh.specs.Stays.{Stays, stays_none, stays_then, stays_with}

-- words, weights of nets, and how many nets are kept
pub record Kept : Type 0 where
  pub words : List ℕ
  pub weights : List ℕ
  pub count : ℕ

abbrev pub kept_of : List ℕ → List ℕ → ℕ → Kept
kept_of ws l k = record { words = ws; weights = l; count = k }

-- has net e two pins or more
abbrev pub is_net : List ℕ → ℕ → ℕ → Bool
is_net ws nets e = leb 2 (length (rising_of ws 2 (nets + e)))

-- net e becomes net k
abbrev pub moved : List ℕ → ℕ → ℕ → ℕ → List ℕ
moved ws nets e k = with_set ws 2 (nets + k) (λ j. held ws 2 (nets + e) j || held ws 2 (nets + e) j)

abbrev pub net_kept : ℕ → List ℕ → ℕ → Kept → Kept
net_kept nets weights e s =
    cond (is_net s.words nets e) (kept_of (moved s.words nets e s.count) (set s.weights s.count (get_or weights e 0)) (s.count + 1)) s

unfoldable pub compacted : ℕ → List ℕ → Kept → ℕ → Kept
compacted nets weights s m = turns (net_kept nets weights) s m

module _ (nets : ℕ) (weights : List ℕ) where
  pub compacted_words : (s : Kept) (m : ℕ) → length (compacted nets weights s m).words ≡ length s.words
  unfolding compacted turns
  compacted_words s zero = refl
  compacted_words s (suc m) =
      let t = compacted nets weights s m in
      by_cases (is_net t.words nets m)
      (λ e. rw e (with_set_length t.words 2 (nets + t.count) _ ∙ compacted_words s m))
      (λ e. rw e (compacted_words s m))

  pub compacted_weights : (s : Kept) (m : ℕ) → length (compacted nets weights s m).weights ≡ length s.weights
  unfolding compacted turns
  compacted_weights s zero = refl
  compacted_weights s (suc m) =
      let t = compacted nets weights s m in
      by_cases (is_net t.words nets m)
      (λ e. rw e (length-set t.weights t.count (get_or weights m 0) ∙ compacted_weights s m))
      (λ e. rw e (compacted_weights s m))

  -- net e is kept, or not, as the proof of one turn wants it
  module _ (e : ℕ) (ws ws' kept kept' : List ℕ) (k n w : ℕ) (q : n ≡ length (rising_of ws 2 (nets + e))) where
    pub kept_more : 2 ≤ n → ws' ≡ moved ws nets e k → w ≡ get_or weights e 0 → kept' ≡ set kept k w
        → kept_of ws' kept' (k + 1) ≡ net_kept nets weights e (kept_of ws kept k)
    kept_more h f g l =
        (λ i. kept_of (f i) (l i) (k + 1)) ∙ ap (λ (x : ℕ). kept_of (moved ws nets e k) (set kept k x) (k + 1)) g
        ∙ sym (ap (λ b. cond b (kept_of (moved ws nets e k) (set kept k (get_or weights e 0)) (k + 1)) (kept_of ws kept k)) (sym (ap (leb 2) q) ∙ le-leb 2 n h))

    pub kept_none : n < 2 → kept_of ws kept k ≡ net_kept nets weights e (kept_of ws kept k)
    kept_none h =
        sym (ap (λ b. cond b (kept_of (moved ws nets e k) (set kept k (get_or weights e 0)) (k + 1)) (kept_of ws kept k)) (sym (ap (leb 2) q) ∙ lt-leb 2 n h))

module _ (ws : List ℕ) (nets : ℕ) (weights start : List ℕ) (m : ℕ) where
  -- after e of the m nets
  pub record Compacts (e : ℕ) (s : Kept) : Type 0 where
    pub few : s.count ≤ e
    pub nets_are : map (net_in s.words nets s.weights) (range s.count) ≡ nets≥2 (map (net_in ws nets weights) (range e))
    pub rest : (i j : ℕ) → e ≤ i → j < 128 → held s.words 2 (nets + i) j ≡ held ws 2 (nets + i) j
    pub inside : (n : ℕ) → Within ws nets m n → Within s.words nets s.count n
    pub stays : Stays (nets * 2) ((nets + 256) * 2) ws s.words
    pub long : length s.weights ≡ length start

  nets_more : (e : ℕ) → nets≥2 (map (net_in ws nets weights) (range (suc e)))
      ≡ nets≥2 (map (net_in ws nets weights) (range e)) ++ nets≥2 (net_in ws nets weights e ∷ [])
  nets_more e =
      ap nets≥2 (ap (λ (k : ℕ). map (net_in ws nets weights) (range k)) (sym (add-one e)) ∙ map-range_more (net_in ws nets weights) e)
      ∙ keep_append (λ (x : Net). leb 2 (length x.pins)) (map (net_in ws nets weights) (range e)) (net_in ws nets weights e ∷ [])

  module _ (few_nets : (m ≤ 256) × (m ≤ length start)) (room : (nets + 256) * 2 ≤ length ws) where
    same_pins : (e : ℕ) (s : Kept) → Compacts e s → rising_of s.words 2 (nets + e) ≡ rising_of ws 2 (nets + e)
    unfolding rising_of
    same_pins e s h = keep_ext (held s.words 2 (nets + e)) (held ws 2 (nets + e)) 128 (λ j b. h.rest e j (omega arith) b)

    step_none : (e : ℕ) (s : Kept) → e < m → Compacts e s → is_net s.words nets e ≡ false → Compacts (suc e) s
    step_none e s b h f =
        let g : leb 2 (length (rising_of ws 2 (nets + e))) ≡ false = sym (ap (λ l. leb 2 (length l)) (same_pins e s h)) ∙ f in
        record {
          few = omega (arith, h.few);
          nets_are = h.nets_are ∙ sym (append-nil _) ∙ sym (nets_more e ∙ rw g);
          rest = λ i j l k. h.rest i j (omega arith) k;
          inside = h.inside;
          stays = h.stays;
          long = h.long;
        }

    module _ (e : ℕ) (s : Kept) (b : e < m) (h : Compacts e s) where
      abbrev k : ℕ
      k = s.count

      abbrev ws' : List ℕ
      ws' = moved s.words nets e k

      abbrev weights' : List ℕ
      weights' = set s.weights k (get_or weights e 0)

      held_new : (j : ℕ) → j < 128 → held ws' 2 (nets + k) j ≡ held ws 2 (nets + e) j
      held_new j l =
          held_with s.words 2 (nets + k) (λ i. held s.words 2 (nets + e) i || held s.words 2 (nets + e) i) j (omega (arith, h.few, h.stays.same, few_nets.0)) l
          ∙ or_self (held s.words 2 (nets + e) j) ∙ h.rest e j (omega arith) l

      held_old : (i j : ℕ) → (i ≡ k → ⊥) → j < 128 → held ws' 2 (nets + i) j ≡ held s.words 2 (nets + i) j
      held_old i j d l = held_with_other s.words 2 (nets + k) (λ x. held s.words 2 (nets + e) x || held s.words 2 (nets + e) x) (nets + i) j l (λ q. d (omega arith))

      net_new : net_in ws' nets weights' k ≡ net_in ws nets weights e
      unfolding rising_of
      net_new =
          let w : get_or weights' k 0 ≡ get_or weights e 0 = get_or-set_same s.weights k (get_or weights e 0) 0 (omega (arith, h.few, h.long, few_nets.1)) in
          let p : rising_of ws' 2 (nets + k) ≡ rising_of ws 2 (nets + e) = keep_ext (held ws' 2 (nets + k)) (held ws 2 (nets + e)) 128 held_new in
          ap₂ (λ (x : List ℕ) (y : ℕ). net_with x y) p w
        where
          net_with : List ℕ → ℕ → Net
          net_with x y = record { pins = x; weight = whole_float y }

      net_old : (i : ℕ) → i < k → net_in ws' nets weights' i ≡ net_in s.words nets s.weights i
      unfolding rising_of
      net_old i l =
          let w : get_or weights' i 0 ≡ get_or s.weights i 0 = get_or-set_other s.weights k i (get_or weights e 0) 0 (λ q. omega arith) in
          let p : rising_of ws' 2 (nets + i) ≡ rising_of s.words 2 (nets + i) =
          keep_ext (held ws' 2 (nets + i)) (held s.words 2 (nets + i)) 128 (λ j c. held_old i j (λ q. omega arith) c) in
          ap₂ (λ (x : List ℕ) (y : ℕ). net_with x y) p w
        where
          net_with : List ℕ → ℕ → Net
          net_with x y = record { pins = x; weight = whole_float y }

      step_kept : is_net s.words nets e ≡ true → Compacts (suc e) (kept_of ws' weights' (k + 1))
      step_kept f =
          let g : leb 2 (length (rising_of ws 2 (nets + e))) ≡ true = sym (ap (λ l. leb 2 (length l)) (same_pins e s h)) ∙ f in
          record {
            few = omega (arith, h.few);
            nets_are =
                map-range_more (net_in ws' nets weights') k
                ∙ ap₂ (λ (x : List Net) (y : Net). x ++ (y ∷ []))
                (map-range_ext (record { pins = []; weight = zero_float }) (net_in ws' nets weights') (net_in s.words nets s.weights) k net_old ∙ h.nets_are)
                net_new
                ∙ sym (nets_more e ∙ rw g);
            rest = λ i j l c. held_old i j (λ q. omega (arith, h.few)) c ∙ h.rest i j (omega arith) c;
            inside = λ n w i v l c q. elim (ℕ_discrete i k) [
              | yes z ↦ w e v b c (sym (held_new v c) ∙ ap (λ (x : ℕ). held ws' 2 (nets + x) v) (sym z) ∙ q)
              | no z ↦ h.inside n w i v (omega (arith, z)) c (sym (held_old i v z c) ∙ q)
            ];
            stays = stays_then _ _ ws s.words ws' h.stays
                (stays_with _ _ s.words 2 (nets + k) _ (omega arith) (omega (arith, h.few, few_nets.0)));
            long = length-set s.weights k (get_or weights e 0) ∙ h.long;
          }

    step : (e : ℕ) (s : Kept) → e < m → Compacts e s → Compacts (suc e) (net_kept nets weights e s)
    step e s b h =
        by_cases (is_net s.words nets e)
        (λ f. rw f (step_kept e s b h f))
        (λ f. rw f (step_none e s b h f))

    -- COMPACTED
    pub compacts : Compacts m (compacted nets weights (kept_of ws start 0) m)
    unfolding compacted
    compacts =
        turns_invariant (λ e s. Compacts e s) (net_kept nets weights) (kept_of ws start 0) m
        (record {
          few = omega arith;
          nets_are = refl;
          rest = λ i j l c. refl;
          inside = λ n w i v l c q. absurd (omega arith);
          stays = stays_none _ _ ws;
          long = refl;
        })
        step

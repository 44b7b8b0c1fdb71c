-- The nets of each vertex, made from the pins of each net. Assumes nothing.
use Rattle.std.specs.Prelude.{Bool, true, false, ◌&&◌, ◌||◌, ◌≡◌, refl, ltb, length, take}
use Rattle.std.proofs.Math.Bool.{or-false, or_assoc, and-true}
use Rattle.std.proofs.Math.Path.{sym, ap, ap₂}
use Rattle.std.proofs.Common.{◌∙◌, arith, zero-add, add-one, get_or-take, eq-eqb, ne_eqb, lt-ltb, le-ltb}
use mathlib.Core.List.{List, [], ◌∷◌}
use Prim.Native.Nat.{ℕ, zero, suc, ◌+◌, ◌*◌, ◌≤◌, ◌<◌}
use Rattle.std.proofs.Math.Decide.{ℕ_discrete}
use Rattle.std.proofs.Math.Dec.{eqb}
use Rattle.std.proofs.Math.ListN.{get_or}
use Rattle.spec.specs.Lists.{memb, keep, range}
use Rattle.laws.specs.Booleans.{ltb_next}
use Rattle.laws.specs.ListLaws.{kept_below, memb_at}
use Rattle.cells.specs.Loop.{turns, turns_ext, turns_invariant}
use Rattle.slots.specs.Slots.{held}
use Rattle.slots.specs.Writes.{among}
use Rattle.slots.specs.Rising.{rising_of, memb_rising, held_same}
use Rattle.matching.specs.Meshed.{Meshed}
use Rattle.mesh.specs.Stays.{Stays, stays_then}
use Rattle.mesh.specs.Entries.{emptied, emptied_stays, emptied_held, entry, entered, entered_length, entered_stays, entered_held}

-- ---- places of a list ----

among-cons : (x : ℕ) (l : List ℕ) (n j : ℕ) → among (x ∷ l) 0 (suc n) j ≡ (eqb j x || among l 0 n j)
among-cons x l zero j = sym (or-false (eqb j x))
among-cons x l (suc n) j =
    let e : 0 + suc n ≡ suc (0 + n) = omega arith in
    ap₂ (λ (b : Bool) (k : ℕ). b || eqb j (get_or (x ∷ l) k 0)) (among-cons x l n j) e
    ∙ or_assoc (eqb j x) (among l 0 n j) (eqb j (get_or l (0 + n) 0))

pub among_all : (l : List ℕ) (j : ℕ) → among l 0 (length l) j ≡ memb j l
among_all [] j = refl
among_all (x ∷ l) j = among-cons x l (length l) j ∙ ap (λ (b : Bool). eqb j x || b) (among_all l j)

kept_at : (p : ℕ → Bool) (n k : ℕ) → k < length (keep p (range n)) → get_or (keep p (range n)) k 0 < n
kept_at p n k h = kept_below p n (get_or (keep p (range n)) k 0) (memb_at (keep p (range n)) k h)

rising_at : (ws : List ℕ) (W s k : ℕ) → k < length (rising_of ws W s) → get_or (rising_of ws W s) (0 + k) 0 < W * 64
unfolding rising_of
rising_at ws W s k h = rw (zero-add k) (kept_at (held ws W s) (W * 64) k h)

-- what held for the numbers below e holds for those below suc e
pub one_more : (a : ℕ → Bool) (x e : ℕ) → ((ltb x e && a x) || (a e && eqb x e)) ≡ (ltb x (suc e) && a x)
one_more a x e =
    elim (ℕ_discrete x e) [
      | yes q ↦ rw (eq-eqb x e q, le-ltb x e (omega arith), lt-ltb x (suc e) (omega arith)) (rw q (and-true (a e)))
      | no q ↦ rw (ne_eqb x e q) (or_no (ltb x e && a x) (a e) ∙ ap (λ (z : Bool). z && a x) (ltb_next x e q ∙ ap (ltb x) (add-one e)))
    ]
  where
    or_no : (y z : Bool) → (y || (z && false)) ≡ y
    or_no true z = refl
    or_no false true = refl
    or_no false false = refl

-- ---- net after net ----

module _ (nets vertices : ℕ) where
  -- net e is entered at each of its pins
  unfoldable pub crossed_net : ℕ → List ℕ → List ℕ
  crossed_net e ws = entered 4 vertices (rising_of ws 2 (nets + e)) 0 e ws (length (rising_of ws 2 (nets + e)))

  -- the same by a list whose front holds the pins
  pub crossed_listed : (e r : ℕ) (ws list : List ℕ) → r ≡ length (rising_of ws 2 (nets + e)) → take r list ≡ rising_of ws 2 (nets + e)
      → entered 4 vertices list 0 e ws r ≡ crossed_net e ws
  unfolding crossed_net entered
  crossed_listed e r ws list p q =
      turns_ext (entry 4 vertices list 0 e) (entry 4 vertices (rising_of ws 2 (nets + e)) 0 e) ws r
      (λ k t l.
      let z : get_or list (0 + k) 0 ≡ get_or (rising_of ws 2 (nets + e)) (0 + k) 0 = sym (get_or-take r list (0 + k) 0 (omega arith)) ∙ ap (λ (x : List ℕ). get_or x (0 + k) 0) q in
      rw z)
      ∙ ap (turns (entry 4 vertices (rising_of ws 2 (nets + e)) 0 e) ws) p

  unfoldable pub crossed : ℕ → List ℕ → ℕ → List ℕ
  crossed n ws m = turns crossed_net (emptied 4 vertices ws n) m

  pub crossed_length : (n : ℕ) (ws : List ℕ) (m : ℕ) → length (crossed n ws m) ≡ length ws
  unfolding crossed crossed_net turns
  crossed_length n ws zero = (emptied_stays 4 vertices ws n n (omega arith)).same
  crossed_length n ws (suc m) = entered_length 4 vertices _ 0 m (crossed n ws m) _ ∙ crossed_length n ws m

  pub record Crosses (ws : List ℕ) (n e : ℕ) (t : List ℕ) : Type 0 where
    pub stays : Stays (vertices * 4) ((vertices + 128) * 4) ws t
    pub holds : (v x : ℕ) → v < n → x < 256 → held t 4 (vertices + v) x ≡ (ltb x e && held ws 2 (nets + x) v)

  module _ (ws : List ℕ) (n m : ℕ) (few : (m ≤ 256) × (n ≤ 128)) (apart : nets + 256 ≤ vertices * 2) (room : (vertices + 128) * 4 ≤ length ws) where
    step : (e : ℕ) (t : List ℕ) → e < m → Crosses ws n e t → Crosses ws n (suc e) (crossed_net e t)
    unfolding crossed_net
    step e t b h =
        let l : List ℕ = rising_of t 2 (nets + e) in
        record {
          stays = stays_then _ _ ws t _ h.stays (entered_stays 4 vertices l 0 e t (length l) 128 (rising_at t 2 (nets + e)));
          holds = λ v x lv lx.
              entered_held 4 vertices l 0 e t (length l) 128 v x (rising_at t 2 (nets + e)) (omega (arith, few.1)) (omega (arith, h.stays.same)) (omega arith)
              ∙ ap₂ (λ y z. y || (z && eqb x e)) (h.holds v x lv lx)
              (among_all l v ∙ memb_rising t 2 (nets + e) v (omega (arith, few.1)) ∙ held_same ws t _ h.stays.below 2 (nets + e) (omega (arith, few.0)) v (omega (arith, few.1)))
              ∙ one_more (λ y. held ws 2 (nets + y) v) x e;
        }

    all : (k : ℕ) → k ≤ m → Crosses ws n k (crossed n ws k)
    unfolding crossed
    all k b =
        turns_invariant (λ e t. Crosses ws n e t) crossed_net (emptied 4 vertices ws n) k
        (record {
          stays = emptied_stays 4 vertices ws n 128 few.1;
          holds = λ v x lv lx. emptied_held 4 vertices ws n v x lv (omega (arith, few.1)) (omega arith)
              ∙ sym (ap (λ (b : Bool). b && held ws 2 (nets + x) v) (le-ltb x 0 (omega arith)));
        })
        (λ e t l h. step e t (omega arith) h)

    -- THE NETS OF EACH VERTEX
    pub crossed_meshed : Meshed (crossed n ws m) nets vertices m n
    crossed_meshed =
        record {
          few = few;
          crossed = λ v e lv le. (all m (omega arith)).holds v e lv le ∙ net e v lv le;
        }
      where
        net : (e v : ℕ) → v < n → e < 256 → (ltb e m && held ws 2 (nets + e) v) ≡ (ltb e m && held (crossed n ws m) 2 (nets + e) v)
        net e v lv le =
            ap (λ (b : Bool). ltb e m && b) (sym (held_same ws (crossed n ws m) _ (all m (omega arith)).stays.below 2 (nets + e) (omega arith) v (omega (arith, few.1))))

    pub crossed_stays : Stays (vertices * 4) ((vertices + 128) * 4) ws (crossed n ws m)
    crossed_stays = (all m (omega arith)).stays

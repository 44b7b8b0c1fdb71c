-- The leaves that name each index, in slots. Assumes nothing.
use Rattle.std.specs.Prelude.{Bool, true, ◌&&◌, ◌||◌, ◌≡◌, List, ltb, length}
use Rattle.std.proofs.Math.Path.{sym, ap}
use Rattle.std.proofs.Common.{◌∙◌, arith, le-ltb, eq-eqb}
use Prim.Native.Nat.{ℕ, zero, suc, ◌+◌, ◌*◌, ◌≤◌, ◌<◌}
use Rattle.std.proofs.Math.Decide.{ℕ_discrete}
use Rattle.std.proofs.Math.Dec.{eqb}
use Rattle.std.proofs.Math.ListN.{get_or}
use Rattle.laws.specs.Booleans.{or_introl, or_intror}
use Rattle.cells.specs.Loop.{turns, turns_invariant}
use Rattle.slots.specs.Slots.{held}
use Rattle.slots.specs.Writes.{among, leaf_has}
use Rattle.mesh.specs.Stays.{Stays, stays_then}
use Rattle.mesh.specs.Entries.{emptied, emptied_stays, emptied_held, entered, entered_length, entered_stays, entered_held}
use Rattle.mesh.specs.Crossed.{one_more}

pub among_at : (l : List ℕ) (base n k : ℕ) → k < n → among l base n (get_or l (base + k) 0) ≡ true
among_at l base zero k h = absurd (omega arith)
among_at l base (suc n) k h =
    elim (ℕ_discrete k n) [
      | yes e ↦ or_intror (among l base n (get_or l (base + k) 0)) (eqb (get_or l (base + k) 0) (get_or l (base + n) 0))
          (eq-eqb (get_or l (base + k) 0) (get_or l (base + n) 0) (ap (λ (x : ℕ). get_or l (base + x) 0) e))
      | no e ↦ or_introl (among l base n (get_or l (base + k) 0)) (eqb (get_or l (base + k) 0) (get_or l (base + n) 0)) (among_at l base n k (omega (arith, e)))
    ]

-- v is put into the slot of each index that leaf l names
unfoldable pub leaf_put : ℕ → List ℕ → List ℕ → ℕ → ℕ → List ℕ → List ℕ
leaf_put nets counts legs l v t = entered 2 nets legs (l * 32) v t (get_or counts l 0)

module _ (nets : ℕ) (counts legs leaves : List ℕ) where
  -- the leaf at place v of the list
  abbrev pub leaf_put_at : ℕ → List ℕ → List ℕ
  leaf_put_at v t = leaf_put nets counts legs (get_or leaves v 0) v t

  unfoldable pub raw : List ℕ → ℕ → List ℕ
  raw ws n = turns leaf_put_at (emptied 2 nets ws 256) n

  pub raw_length : (ws : List ℕ) (n : ℕ) → length (raw ws n) ≡ length ws
  unfolding raw turns leaf_put
  raw_length ws zero = (emptied_stays 2 nets ws 256 256 (omega arith)).same
  raw_length ws (suc n) = entered_length 2 nets legs _ n (raw ws n) _ ∙ raw_length ws n

  module _ (ws : List ℕ) where
    pub record Raws (v : ℕ) (t : List ℕ) : Type 0 where
      pub stays : Stays (nets * 2) ((nets + 256) * 2) ws t
      pub holds : (j x : ℕ) → j < 256 → x < 128 → held t 2 (nets + j) x ≡ (ltb x v && leaf_has counts legs (get_or leaves x 0) j)

    module _ (n : ℕ) (low : (v k : ℕ) → v < n → k < get_or counts (get_or leaves v 0) 0 → get_or legs (get_or leaves v 0 * 32 + k) 0 < 256) (room : (nets + 256) * 2 ≤ length ws) where
      step : (v : ℕ) (t : List ℕ) → v < n → Raws v t → Raws (suc v) (leaf_put_at v t)
      unfolding leaf_put
      step v t b h =
          let l : ℕ = get_or leaves v 0 in
          record {
            stays = stays_then _ _ ws t _ h.stays (entered_stays 2 nets legs (l * 32) v t (get_or counts l 0) 256 (λ k c. low v k b c));
            holds = λ j x lj lx.
                entered_held 2 nets legs (l * 32) v t (get_or counts l 0) 256 j x (λ k c. low v k b c) lj (omega (arith, h.stays.same)) (omega arith)
                ∙ ap (λ y. y || (among legs (l * 32) (get_or counts l 0) j && eqb x v)) (h.holds j x lj lx)
                ∙ one_more (λ y. leaf_has counts legs (get_or leaves y 0) j) x v;
          }

      -- RAW NETS
      pub raws : Raws n (raw ws n)
      unfolding raw
      raws =
          turns_invariant (λ v t. Raws v t) leaf_put_at (emptied 2 nets ws 256) n
          (record {
            stays = emptied_stays 2 nets ws 256 256 (omega arith);
            holds = λ j x lj lx. emptied_held 2 nets ws 256 j x lj room (omega arith)
                ∙ sym (ap (λ (b : Bool). b && leaf_has counts legs (get_or leaves x 0) j) (le-ltb x 0 (omega arith)));
          })
          step

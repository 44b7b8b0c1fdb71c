-- Each net's pins, mapped to coarse vertices. Assumes nothing.
use Rattle.std.specs.Prelude.{false, ◌||◌, ◌≡◌, List, [], ◌∷◌, map, length, get_or, take}
use Rattle.std.proofs.Math.Path.{refl}
use Rattle.std.proofs.Common.{sym, ap, ◌∙◌, arith, zero-add, get_or-take, length-take-le}
use Prim.Native.Nat.{ℕ, zero, suc, ◌+◌, ◌*◌, ◌≤◌, ◌<◌}
use Rattle.std.proofs.Math.Decide.{ℕ_discrete}
use Rattle.std.proofs.lemmas.List.{length-map}
use Rattle.spec.specs.Lists.{memb}
use Rattle.cells.specs.Loop.{turns, turns_invariant}
use Rattle.slots.specs.Slots.{held, with_set, with_set_length, with_set_then, with_set_ext, held_with, held_with_other}
use Rattle.slots.specs.Writes.{and_all}
use Rattle.slots.specs.Rising.{rising_of, rising_same}
use Rattle.mesh.specs.Stays.{Stays, stays_none, stays_then, stays_with}
use Rattle.mesh.specs.Crossed.{among_all}

-- what stands at each number of a list
abbrev pub images : List ℕ → List ℕ → List ℕ
images places l = map (λ v. get_or places v 0) l

-- of the whole list
pub image_there : (places l : List ℕ) (k : ℕ) → k < length l → get_or (images places l) (0 + k) 0 ≡ get_or places (get_or l k 0) 0
image_there places l k h = rw (zero-add k) (at l k h)
  where
    at : (t : List ℕ) (k : ℕ) → k < length t → get_or (images places t) k 0 ≡ get_or places (get_or t k 0) 0
    at [] k h = absurd (omega arith)
    at (x ∷ t) zero h = refl
    at (x ∷ t) (suc k) h = at t k (omega arith)

-- of its first n
pub image_at : (places l : List ℕ) (n k : ℕ) → k < n → n ≤ length l → get_or (images places (take n l)) (0 + k) 0 ≡ get_or places (get_or l k 0) 0
image_at places l n k h b = image_there places (take n l) k (omega (arith, length-take-le n l b)) ∙ ap (λ (v : ℕ). get_or places v 0) (get_or-take n l k 0 h)

-- slot s holds the images of a list, put there after it was emptied
pub images_put : (ws g r places pins l : List ℕ) (s : ℕ) → pins ≡ l → g ≡ with_set ws 2 s (λ j. false)
    → r ≡ with_set g 2 s (and_all g 2 s (images places pins) 0 (length pins)) → r ≡ with_set ws 2 s (λ j. memb j (images places l))
images_put ws g r places pins l s f p q =
    q ∙ ap (λ t. with_set g 2 s (and_all g 2 s (images places t) 0 (length t))) f
    ∙ ap (λ (k : ℕ). with_set g 2 s (and_all g 2 s (images places l) 0 k)) (sym (length-map l (λ v. get_or places v 0)))
    ∙ with_set_ext g 2 s _ _ (λ j b. ap (λ t. held g 2 s j || t) (among_all (images places l) j))
    ∙ ap (λ t. with_set t 2 s (λ j. held t 2 s j || memb j (images places l))) p
    ∙ with_set_then ws 2 s (λ j. false) (λ j x. x || memb j (images places l))

module _ (nets nets₂ : ℕ) (places : List ℕ) where
  -- net e's pins, mapped, in slot nets₂ + e
  abbrev pub mapped_net : ℕ → List ℕ → List ℕ
  mapped_net e ws = with_set ws 2 (nets₂ + e) (λ j. memb j (images places (rising_of ws 2 (nets + e))))

  unfoldable pub mapped : List ℕ → ℕ → List ℕ
  mapped ws m = turns mapped_net ws m

  pub mapped_length : (ws : List ℕ) (m : ℕ) → length (mapped ws m) ≡ length ws
  unfolding mapped turns
  mapped_length ws zero = refl
  mapped_length ws (suc m) = with_set_length (mapped ws m) 2 (nets₂ + m) _ ∙ mapped_length ws m

  module _ (ws : List ℕ) where
    pub record Maps (e : ℕ) (t : List ℕ) : Type 0 where
      pub stays : Stays (nets₂ * 2) ((nets₂ + 256) * 2) ws t
      pub holds : (i j : ℕ) → i < e → j < 128 → held t 2 (nets₂ + i) j ≡ memb j (images places (rising_of ws 2 (nets + i)))

    module _ (m : ℕ) (few : m ≤ 256) (apart : nets + 256 ≤ nets₂) (room : (nets₂ + 256) * 2 ≤ length ws) where
      step : (e : ℕ) (t : List ℕ) → e < m → Maps e t → Maps (suc e) (mapped_net e t)
      step e t b h =
          record {
            stays = stays_then _ _ ws t _ h.stays (stays_with _ _ t 2 (nets₂ + e) _ (omega arith) (omega arith));
            holds = λ i j l c. elim (ℕ_discrete i e) [
              | yes q ↦ new i j q c
              | no q ↦ held_with_other t 2 (nets₂ + e) _ (nets₂ + i) j c (λ z. q (omega arith)) ∙ h.holds i j (omega (arith, q)) c
            ];
          }
        where
          new : (i j : ℕ) → i ≡ e → j < 128 → held (mapped_net e t) 2 (nets₂ + i) j ≡ memb j (images places (rising_of ws 2 (nets + i)))
          new i j q c =
              rw q (held_with t 2 (nets₂ + e) _ j (omega (arith, h.stays.same)) c
              ∙ ap (λ l. memb j (images places l)) (rising_same ws t _ h.stays.below 2 (nets + e) (omega arith)))

      -- MAPPED
      pub maps : Maps m (mapped ws m)
      unfolding mapped
      maps = turns_invariant (λ e t. Maps e t) mapped_net ws m (record { stays = stays_none _ _ ws; holds = λ i j l c. absurd (omega arith) }) step
